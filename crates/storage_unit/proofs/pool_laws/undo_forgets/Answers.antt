use Rattle.storage_unit.proofs.UndoForgets.{undo-forgets}
use Rattle.storage_unit.proofs.pool_laws.undo_forgets.Goals as goal

pub returns : goal.returns
returns c = undo-forgets
