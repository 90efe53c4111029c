use Rattle.outside.proofs.Common.{common_steps, arith}
use Rattle.outside.proofs.memory_disk.MemoryDisk.entry_of.Goals as goal

pub returns : goal.returns
returns c = grind (arith, common_steps)
