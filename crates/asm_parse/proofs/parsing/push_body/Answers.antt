use Rattle.asm_parse.proofs.Common.{common_steps, arith}
use Rattle.asm_parse.proofs.parsing.push_body.Goals as goal

pub returns-in-Err : goal.returns-in-Err
returns-in-Err c = grind (arith, common_steps)

pub returns-in-Ok : goal.returns-in-Ok
returns-in-Ok c = grind (arith, common_steps)

pub returns-in-Some-operands_of : goal.returns-in-Some-operands_of
returns-in-Some-operands_of c = grind (arith, common_steps)

pub returns-in-None-operands_of : goal.returns-in-None-operands_of
returns-in-None-operands_of c = grind (arith, common_steps)
