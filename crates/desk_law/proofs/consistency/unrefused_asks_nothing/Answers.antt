use Rattle.desk_law.proofs.Unrefused.{unrefused-free}
use Rattle.desk_law.proofs.consistency.unrefused_asks_nothing.Goals as goal

pub returns : goal.returns
returns c = unrefused-free
