use Rattle.store_calls.proofs.Common.{take, flat_map, PrintsBytes, PutsTimes, done, touch_line}
use Rattle.store_calls.proofs.trace.put_touches.Given as goal

-- the lines so far are put
abbrev pub invariant-loop-touch : goal.invariant-loop-touch
invariant-loop-touch g l = record {
  puts : PrintsBytes g.W.Outside (flat_map touch_line (take l.touch-index l.touches)) l.initial.outside l.outside done;
  times : PutsTimes g.W.Outside l.touch-index l.initial.outside l.outside done;
}
