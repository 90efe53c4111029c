use Rattle.lines.proofs.Common.{length}
use Rattle.lines.proofs.line_geometry.+start_among.Given as goal

abbrev pub decreases-start_among : goal.decreases-start_among
decreases-start_among l = length l.segments.now
