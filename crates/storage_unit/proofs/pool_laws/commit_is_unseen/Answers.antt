use Rattle.storage_unit.proofs.CommitIsUnseen.{commit-is-unseen}
use Rattle.storage_unit.proofs.pool_laws.commit_is_unseen.Goals as goal

pub returns : goal.returns
returns c = commit-is-unseen
