use Rattle.outside.proofs.Common.{arith}
use Rattle.outside.proofs.memory_disk.MemoryDiskDisk.read_at.Goals as goal

pub returns-clause-keeps : goal.returns-clause-keeps
returns-clause-keeps c = grind arith
