use Rattle.storage_unit.proofs.SettleKeeps.{settle-keeps}
use Rattle.storage_unit.proofs.pool_laws.settle_keeps.Goals as goal

pub returns : goal.returns
returns c = settle-keeps
