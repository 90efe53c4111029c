use Rattle.storage_unit.proofs.Common.{length}
use Rattle.storage_unit.proofs.page_moves.+key_among.Given as goal

abbrev pub decreases-key_among : goal.decreases-key_among
decreases-key_among l = length l.segments.now
