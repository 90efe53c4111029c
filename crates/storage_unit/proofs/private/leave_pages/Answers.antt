use Rattle.storage_unit.proofs.Lemmas.{length, ap, arith, Placed, nat_tests, common_steps, nones-more, nones-long}
use Rattle.storage_unit.proofs.private.leave_pages.Goals as goal

pub clear_frame-requires-clause-room : goal.clear_frame-requires-clause-room
clear_frame-requires-clause-room c =
    omega (arith, c.requires.room, c.loop-index-test.true, ap (λ (t : Placed). length t.keys) c.loop-index.invariant.table, nones-long c.args.table.now.keys c.args.first c.loop-index.index (omega (arith, c.requires.room, c.loop-index-test.true)))

pub loop-index-preserved : goal.loop-index-preserved
loop-index-preserved c = grind (arith, nat_tests, nones-more)

pub loop-index-init : goal.loop-index-init
loop-index-init c = grind (arith, common_steps)
