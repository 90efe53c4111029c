use Rattle.flat_machine.proofs.Common.{arith, common_steps}
use Rattle.flat_machine.proofs.branches.target_of.Goals as goal

pub returns : goal.returns
returns c = grind (arith, common_steps)
