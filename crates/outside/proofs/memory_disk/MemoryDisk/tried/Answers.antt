use Rattle.outside.proofs.Lemmas.{nat_tests, common_steps, arith, tears_either, entry_is_write}
use Rattle.outside.proofs.memory_disk.MemoryDisk.tried.Goals as goal

pub returns-in-Ok-clause-crash : goal.returns-in-Ok-clause-crash
returns-in-Ok-clause-crash c = c.recorded.ensures.wrote c.args.at c.args.bytes.now c.requires (entry_is_write c.args.fate _ c.args.at c.args.bytes.now c.in-Ok.entry c.in-Ok.ensures)

pub returns-in-Ok-clause-tears : goal.returns-in-Ok-clause-tears
returns-in-Ok-clause-tears c = grind (arith, nat_tests, entry_is_write, tears_either)

pub returns-in-Ok-clause-went : goal.returns-in-Ok-clause-went
returns-in-Ok-clause-went c = grind (arith, common_steps)
