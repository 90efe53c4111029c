use Rattle.romp_asm.proofs.Common.{arith}
use Rattle.romp_asm.proofs.field.relative.Goals as goal

pub returns-then-is_between-clause-low : goal.returns-then-is_between-clause-low
returns-then-is_between-clause-low c = grind arith

pub returns-then-is_between-clause-high : goal.returns-then-is_between-clause-high
returns-then-is_between-clause-high c = grind arith
