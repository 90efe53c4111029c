use Rattle.seats.proofs.Common.{arith, common_steps}
use Rattle.seats.proofs.line_locks.Locks.new.Goals as goal

pub invariant_of-result : goal.invariant_of-result
invariant_of-result c = grind (arith, common_steps)

pub loop-preserved : goal.loop-preserved
loop-preserved c = grind (arith, common_steps)
