use Rattle.lines.proofs.Common.{length}
use Rattle.lines.proofs.line_geometry.+fault_behind.Given as goal

abbrev pub decreases-fault_behind : goal.decreases-fault_behind
decreases-fault_behind l = length l.segments.now
