use Rattle.frame_pool.proofs.Common.{◌≡◌, ◌≤◌, vec_capacity, range_with_len}
use Rattle.frame_pool.proofs.frame_places.frames_from.Given as goal

abbrev pub invariant-loop-frame : goal.invariant-loop-frame
invariant-loop-frame l = (l.frames.items ≡ range_with_len l.first l.frame) × (l.count ≤ vec_capacity l.frames)
