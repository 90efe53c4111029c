use Rattle.romp_asm.proofs.Lemmas.{arith, common_steps, inst_made, nat_tests}
use Rattle.romp_asm.proofs.instruction.two_registers.Goals as goal

pub returns-in_ok-c-in-TwoRegisters : goal.returns-in_ok-c-in-TwoRegisters
returns-in_ok-c-in-TwoRegisters c =
    inst_made (grind (arith, common_steps)) (grind arith) c.requires (grind arith) (λ row told. grind (arith, nat_tests, c.in-TwoRegisters.is))
