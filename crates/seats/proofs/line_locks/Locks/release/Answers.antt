use Rattle.seats.proofs.Common.{arith, common_steps}
use Rattle.seats.proofs.line_locks.Locks.release.Goals as goal

pub invariant_of-self : goal.invariant_of-self
invariant_of-self c = grind (arith, common_steps)
