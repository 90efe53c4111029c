use Rattle.storage_unit.proofs.EmptyKeeps.{empty-keeps}
use Rattle.storage_unit.proofs.pool_laws.empty_keeps.Goals as goal

pub returns : goal.returns
returns c = empty-keeps
