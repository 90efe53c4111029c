use Rattle.outside.proofs.Common.{common_steps, arith}
use Rattle.outside.proofs.memory_source.MemorySourceSource.read.Goals as goal

pub copy_from_slice-requires : goal.copy_from_slice-requires
copy_from_slice-requires c = grind (arith, common_steps)

pub returns-clause-bound : goal.returns-clause-bound
returns-clause-bound c = grind (arith, common_steps)
