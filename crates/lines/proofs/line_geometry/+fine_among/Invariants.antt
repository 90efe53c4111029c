use Rattle.lines.proofs.Common.{length}
use Rattle.lines.proofs.line_geometry.+fine_among.Given as goal

abbrev pub decreases-fine_among : goal.decreases-fine_among
decreases-fine_among l = length l.segments.now
