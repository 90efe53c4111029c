use Rattle.storage_unit.proofs.BringKeeps.{bring-keeps}
use Rattle.storage_unit.proofs.pool_laws.bring_keeps.Goals as goal

pub returns : goal.returns
returns c = bring-keeps
