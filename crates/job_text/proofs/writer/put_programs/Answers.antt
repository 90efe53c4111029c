use Rattle.job_text.proofs.Lemmas.{rules, ◌≡◌, ℕ, suc, List, ◌∷◌, ◌++◌, [], length, length-append, ap, ◌∙◌, subst, arith, All, flat_map, zip_turn, zip_end, Parts, parts_of, AreBytes, token_line, program_lines, all_more, pair_more, pairs_whole, text_more}
use Rattle.std.specs.Iterator.Adapters.{zip_first, zip_second}
use Rattle.std.specs.Slice.Iter.{iter_rest}
use Rattle.job_text.proofs.writer.put_programs.Goals as goal

pub loop-name-preserved : goal.loop-name-preserved
loop-name-preserved c =
    let first : iter_rest (zip_first c.into_iter-name-iterator.result) ≡ c.args.names.now = search rules in
    let second : iter_rest (zip_second c.into_iter-name-iterator.result) ≡ c.args.programs.now = search rules in
    let turn = zip_turn c.args.names.now c.args.programs.now c.loop-name.yielded c.into_iter-name-iterator.result c.loop-name.name-iterator c.next.new.self c.next.result first second c.loop-name.yielded_by (c.in-Some.name, c.in-Some.program) c.in-Some.is c.next.ensures.steps in
    let long : length (c.loop-name.yielded ++ (c.in-Some.name, c.in-Some.program) ∷ []) ≡ suc (length c.loop-name.yielded) = omega (arith, length-append c.loop-name.yielded ((c.in-Some.name, c.in-Some.program) ∷ [])) in
    let more = pair_more (λ name. name.items) parts_of c.args.names.now c.args.programs.now (length c.loop-name.yielded) c.in-Some.name.now c.in-Some.program.now turn.0 turn.1 turn.2 turn.3 in
    record {
      bytes = all_more (λ (program : List ℕ × Parts). AreBytes program.1.image) _ (length c.loop-name.yielded) _ _ long more c.loop-name.invariant.bytes c.in_ok-put_program.ensures.bytes;
      lines = text_more token_line program_lines _ (length c.loop-name.yielded) _ (c.in-Some.name.now.items, parts_of c.in-Some.program.now) c.args.text.now.items c.loop-name.text.items c.put_program.new.text.items long more c.loop-name.invariant.lines (c.in_ok-put_program.ensures.lines ∙ ap (λ (name : List ℕ). c.loop-name.text.items ++ flat_map token_line (program_lines (name, parts_of c.in-Some.program.now))) c.as_slice.ensures.value);
    }

pub returns-clause-bytes : goal.returns-clause-bytes
returns-clause-bytes c =
    let first : iter_rest (zip_first c.into_iter-name-iterator.result) ≡ c.args.names.now = search rules in
    let second : iter_rest (zip_second c.into_iter-name-iterator.result) ≡ c.args.programs.now = search rules in
    let end = zip_end c.args.names.now c.args.programs.now c.loop-name.yielded c.into_iter-name-iterator.result c.loop-name.name-iterator c.next.new.self c.next.result first second c.loop-name.yielded_by c.in-None.is c.next.ensures.steps in
    subst (λ (pairs : List (List ℕ × Parts)). All (λ program. AreBytes program.1.image) pairs) (pairs_whole (λ name. name.items) parts_of c.args.names.now c.args.programs.now (length c.loop-name.yielded) end) c.loop-name.invariant.bytes

pub returns-clause-lines : goal.returns-clause-lines
returns-clause-lines c =
    let first : iter_rest (zip_first c.into_iter-name-iterator.result) ≡ c.args.names.now = search rules in
    let second : iter_rest (zip_second c.into_iter-name-iterator.result) ≡ c.args.programs.now = search rules in
    let end = zip_end c.args.names.now c.args.programs.now c.loop-name.yielded c.into_iter-name-iterator.result c.loop-name.name-iterator c.next.new.self c.next.result first second c.loop-name.yielded_by c.in-None.is c.next.ensures.steps in
    c.loop-name.invariant.lines ∙ ap (λ (pairs : List (List ℕ × Parts)). c.args.text.now.items ++ flat_map token_line (flat_map program_lines pairs)) (pairs_whole (λ name. name.items) parts_of c.args.names.now c.args.programs.now (length c.loop-name.yielded) end)
