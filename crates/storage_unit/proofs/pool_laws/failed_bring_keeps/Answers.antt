use Rattle.storage_unit.proofs.FailedBringKeeps.{failed-bring-keeps}
use Rattle.storage_unit.proofs.pool_laws.failed_bring_keeps.Goals as goal

pub returns : goal.returns
returns c = failed-bring-keeps
