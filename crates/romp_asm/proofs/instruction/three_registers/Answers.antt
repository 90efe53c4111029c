use Rattle.romp_asm.proofs.Lemmas.{arith, common_steps, inst_made, nat_tests}
use Rattle.romp_asm.proofs.instruction.three_registers.Goals as goal

pub returns-in_ok-c-in-ThreeRegisters : goal.returns-in_ok-c-in-ThreeRegisters
returns-in_ok-c-in-ThreeRegisters c =
    inst_made (grind (arith, common_steps)) (grind arith) c.requires (grind arith) (λ row told. grind (arith, nat_tests, c.in-ThreeRegisters.is))
