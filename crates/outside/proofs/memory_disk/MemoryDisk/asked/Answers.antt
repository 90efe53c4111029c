use Rattle.outside.proofs.Common.{arith}
use Rattle.outside.proofs.memory_disk.MemoryDisk.asked.Goals as goal

pub returns-then-fails-clause-durable : goal.returns-then-fails-clause-durable
returns-then-fails-clause-durable c = grind arith

pub returns-then-fails-clause-pending : goal.returns-then-fails-clause-pending
returns-then-fails-clause-pending c = grind arith
