use Rattle.storage_unit.proofs.Common.{length}
use Rattle.storage_unit.proofs.unit.Unit.+put_parts.Given as goal

abbrev pub decreases-put_parts : goal.decreases-put_parts
decreases-put_parts l = length l.from.now
