use Rattle.storage_unit.proofs.Common.{length}
use Rattle.storage_unit.proofs.unit.Unit.+copy_parts.Given as goal

abbrev pub decreases-copy_parts : goal.decreases-copy_parts
decreases-copy_parts l = length l.into.now
