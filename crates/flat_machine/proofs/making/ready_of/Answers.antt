use Rattle.flat_machine.proofs.Common.{arith, common_steps}
use Rattle.flat_machine.proofs.making.ready_of.Goals as goal

pub returns-in_ok-decode-2 : goal.returns-in_ok-decode-2
returns-in_ok-decode-2 c = grind (arith, common_steps)
