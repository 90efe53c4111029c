use Rattle.romp_asm.proofs.Lemmas.{arith, common_steps, inst_made, nat_tests}
use Rattle.romp_asm.proofs.instruction.alone.Goals as goal

pub returns-in_ok-to-in-LinkAddress : goal.returns-in_ok-to-in-LinkAddress
returns-in_ok-to-in-LinkAddress c =
    inst_made (grind (arith, common_steps)) (grind arith) c.requires (grind arith) (λ row told. grind (arith, nat_tests, c.in-LinkAddress.is))

pub returns-in_ok-i-in-Call : goal.returns-in_ok-i-in-Call
returns-in_ok-i-in-Call c =
    inst_made (grind (arith, common_steps)) (grind arith) c.requires (grind arith) (λ row told. grind (arith, nat_tests, c.in-Call.is))
