use Rattle.romp_asm.proofs.Lemmas.{arith, common_steps, inst_made, nat_tests}
use Rattle.romp_asm.proofs.instruction.trapping.Goals as goal

pub returns-in_ok-i-in-Trap : goal.returns-in_ok-i-in-Trap
returns-in_ok-i-in-Trap c =
    inst_made (grind (arith, common_steps)) (grind arith) c.requires (grind arith) (λ row told. grind (arith, nat_tests, c.in-Trap.is))
