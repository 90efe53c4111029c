use Rattle.romp_asm.proofs.Common.{arith, nat_tests}
use Rattle.romp_asm.proofs.size_law.size_is_by_mnemonic.Goals as goal

pub returns : goal.returns
returns c one other same = grind (arith, nat_tests)
