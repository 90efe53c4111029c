use Rattle.store.proofs.Common.{common_steps, arith}
use Rattle.store.proofs.redo_journal.Bank.of_store.Goals as goal

pub invariant_of-result : goal.invariant_of-result
invariant_of-result c = grind (arith, common_steps)
