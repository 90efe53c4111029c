use Rattle.asm_parse.proofs.Common.{common_steps, arith}
use Rattle.asm_parse.proofs.operand.base_of.Goals as goal

pub returns-in-Open : goal.returns-in-Open
returns-in-Open c = grind (arith, common_steps)
