use Rattle.asm_parse.proofs.Lemmas.{position_mapped, arith, common_steps}
use Rattle.asm_parse.proofs.operand.place_among.Goals as goal

pub returns-in-Some : goal.returns-in-Some
returns-in-Some c = grind (arith, common_steps, position_mapped)

pub returns-in-None : goal.returns-in-None
returns-in-None c = grind (arith, common_steps, position_mapped)
