use Rattle.romp_asm.proofs.Lemmas.{arith, common_steps, inst_made, nat_tests}
use Rattle.romp_asm.proofs.instruction.immediate.Goals as goal

pub returns-in_ok-i-in-Signed : goal.returns-in_ok-i-in-Signed
returns-in_ok-i-in-Signed c =
    inst_made (grind (arith, common_steps)) (grind arith) c.requires (grind arith) (λ row told. grind (arith, nat_tests, c.in-Signed.is))

pub returns-in_ok-i-in-Unsigned : goal.returns-in_ok-i-in-Unsigned
returns-in_ok-i-in-Unsigned c =
    inst_made (grind (arith, common_steps)) (grind arith) c.requires (grind arith) (λ row told. grind (arith, nat_tests, c.in-Unsigned.is))
