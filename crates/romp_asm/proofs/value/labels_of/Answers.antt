use Rattle.romp_asm.proofs.Lemmas.{◌≡◌, get_or, arith, refl, sym, ap, ◌∙◌, Statement, stated, size_of, or_none, alone_more, no_place, place_more, signed_same, total_more}
use Rattle.romp_asm.proofs.value.labels_of.Goals as goal

pub loop-index-init : goal.loop-index-init
loop-index-init c = record { table = λ word. rw c.new-labels.ensures.empty (sym (no_place 0 word)); alone = λ none index statement below. absurd (omega (arith, below)); address = refl; small = omega arith }

pub loop-index-preserved : goal.loop-index-preserved
loop-index-preserved c =
    let i = c.loop-index.index in
    let statement = stated c.of.result in
    let here : statement ≡ get_or c.args.statements.now i statement = c.of.ensures ∙ c.index-statements-index.is ∙ ap (get_or c.args.statements.now i) (sym c.of.ensures) in
    let size : size_of statement.body ≡ size_of c.index-statements-index.result.body = ap (λ (statement : Statement). size_of statement.body) c.of.ensures in
    let more = total_more c.args.statements.now i statement c.loop-index-test.true here in
    record {
      table = λ word. c.in_ok-again.ensures.noted word ∙ rw (signed_same c.loop-index.address (omega arith), c.loop-index.invariant.table word) (sym (place_more 0 c.args.statements.now i statement word c.loop-index.address c.loop-index-test.true here (omega (arith, c.loop-index.invariant.address))));
      alone = λ none.
          let (one, two) = or_none c.loop-index.repeats c.in_ok-again.again none in
          alone_more c.loop-index.labels c.note.new.labels statement _ c.in_ok-again.ensures.noted c.args.statements.now c.loop-index-test.true here (c.loop-index.invariant.alone one) (c.in_ok-again.ensures.again two);
      address = omega arith;
      small = omega arith;
    }
