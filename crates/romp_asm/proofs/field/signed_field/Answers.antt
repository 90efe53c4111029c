use Rattle.romp_asm.proofs.Common.{arith}
use Rattle.romp_asm.proofs.field.signed_field.Goals as goal

pub overflow_cast-result : goal.overflow_cast-result
overflow_cast-result c = grind arith
