use Rattle.romp_asm.proofs.Lemmas.{arith, common_steps, inst_made, nat_tests}
use Rattle.romp_asm.proofs.instruction.to_register.Goals as goal

pub returns-in_ok-c-in-BranchRegister : goal.returns-in_ok-c-in-BranchRegister
returns-in_ok-c-in-BranchRegister c =
    inst_made (grind (arith, common_steps)) (grind arith) c.requires (grind arith) (λ row told. grind (arith, nat_tests, c.in-BranchRegister.is))
