use Rattle.activations.proofs.Common.{◌≡◌, drop, absent_segment}
use Rattle.activations.proofs.activations.absent_segment.Given as goal

-- the windows so far have their segments
abbrev pub invariant-loop-window : goal.invariant-loop-window
invariant-loop-window l = absent_segment l.directory l.windows ≡ absent_segment l.directory (drop l.window-index l.windows)
