use Rattle.store_calls.proofs.Common.{◌≡◌, take, widened_segments}
use Rattle.store_calls.proofs.renew.widened.Given as goal

abbrev pub invariant-loop-segment : goal.invariant-loop-segment
invariant-loop-segment l = l.segments.items ≡ widened_segments (take l.segment-index l.segment-items)
