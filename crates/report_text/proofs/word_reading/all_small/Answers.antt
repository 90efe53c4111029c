use Rattle.report_text.proofs.Lemmas.{empty_is, some_is, all_listed, one_more}
use Rattle.report_text.proofs.word_reading.all_small.Goals as goal

pub loop-left-preserved : goal.loop-left-preserved
loop-left-preserved c = λ ns small is.
    let left = c.loop-left.left.now in
    rw c.in_ok-push.ensures.items
    (one_more ns c.loop-left.numbers.items left c.first_small-number.result.1.now c.first_small-number.result.0
    (some_is left c.loop-left-test.ensures) c.first_small-number.ensures.parts (c.loop-left.invariant ns small is))

pub returns : goal.returns
returns c = λ ns small is.
    all_listed ns c.loop-left.numbers.items (rw (empty_is c.loop-left.left.now c.loop-left-test.ensures) at (c.loop-left.invariant ns small is))
