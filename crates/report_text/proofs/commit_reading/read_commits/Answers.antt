use Rattle.report_text.proofs.Lemmas.{[], refl, ◌++◌, ◌∷◌, ap, sym, ◌∙◌, append-nil, length-append, arith, map, filter-append, map-append, flat_map, is_commit, All-push, line_text, MayBePut, commit_told, option_to_list, empty_is, bytes_more, fewer}
use Rattle.report_text.proofs.commit_reading.read_commits.Goals as goal

pub loop-left-init : goal.loop-left-init
loop-left-init c = record { lines = []; text = refl; are = λ k d below. absurd (omega (arith, below)); only = ap (map commit_told) c.new-commits.ensures.items; place = refl; few = omega arith }

pub loop-left-preserved : goal.loop-left-preserved
loop-left-preserved c =
    let (line, whole, tells, bytes) = rw c.in-Some.is at c.in_ok-told.ensures in
    let inv = c.loop-left.invariant in
    record {
      lines = inv.lines ++ line ∷ [];
      text = bytes_more c.args.text.now c.loop-left.left.now c.in-Some.rest.now inv.lines line inv.text bytes;
      are = All-push MayBePut inv.lines line inv.are whole;
      only =
          ap (map commit_told) c.in_ok-keep-in-Some.ensures
          ∙ map-append commit_told c.loop-left.commits.items (option_to_list c.in-Some.told)
          ∙ (λ i. inv.only i ++ tells i)
          ∙ sym (filter-append is_commit inv.lines (line ∷ []));
      place = simp length-append (omega arith);
      few = fewer c.args.text.now c.loop-left.left.now c.in-Some.rest.now line c.loop-left.number bytes inv.few;
    }

pub returns : goal.returns
returns c =
    let inv = c.loop-left.invariant in
    record {
      lines = inv.lines;
      are = record { bytes = inv.text ∙ rw (empty_is c.loop-left.left.now c.loop-left-test.ensures) (append-nil (flat_map line_text inv.lines)); are = inv.are };
      only = inv.only;
    }
