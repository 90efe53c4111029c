use Rattle.romp_asm.proofs.Lemmas.{nat_tests, arith, sym, ◌∙◌, take_all, stated, or_none, alone_more, no_place, place_more, signed_same, total_more}
use Rattle.romp_asm.proofs.value.labels_kept.Goals as goal

pub loop-index-init : goal.loop-index-init
loop-index-init c = record { table = λ word. rw c.new-labels.ensures.empty (sym (no_place c.args.start word)); alone = λ none index statement below. absurd (omega (arith, below)); address = omega arith; small = omega arith }

pub loop-index-preserved : goal.loop-index-preserved
loop-index-preserved c =
    let i = c.loop-index.index in
    let statement = stated c.at-part.result in
    let more = total_more c.args.statements.now i statement (omega arith) c.at-part.ensures in
    record {
      table = λ word. c.in_ok-again.ensures.noted word ∙ rw (signed_same c.loop-index.address (omega arith), c.loop-index.invariant.table word) (sym (place_more c.args.start c.args.statements.now i statement word c.loop-index.address (omega arith) c.at-part.ensures c.loop-index.invariant.address));
      alone = λ none.
          let (one, two) = or_none c.loop-index.repeats c.in_ok-again.again none in
          alone_more c.loop-index.labels c.note.new.labels statement _ c.in_ok-again.ensures.noted c.args.statements.now (omega arith) c.at-part.ensures (c.loop-index.invariant.alone one) (c.in_ok-again.ensures.again two);
      address = omega arith;
      small = omega arith;
    }

pub returns-clause-table : goal.returns-clause-table
returns-clause-table c = grind (arith, nat_tests, take_all, c.loop-index.invariant.table, c.loop-index.invariant.alone)

pub returns-clause-small : goal.returns-clause-small
returns-clause-small c = grind (arith, nat_tests, take_all)
