use Rattle.seats.proofs.Common.{arith, common_steps}
use Rattle.seats.proofs.seats.Seats.wait.Goals as goal

pub invariant_of-self : goal.invariant_of-self
invariant_of-self c = grind (arith, common_steps)
