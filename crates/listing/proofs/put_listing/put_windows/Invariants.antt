use Rattle.listing.proofs.Common.{take, count_by, is_some, flat_map, enumerate_from, place_line, PrintsBytes, PutsTimes}
use Rattle.listing.proofs.PutsLemmas.{done}
use Rattle.listing.proofs.put_listing.put_windows.Given as goal

-- the lines so far are put
abbrev pub invariant-loop-index : goal.invariant-loop-index
invariant-loop-index g l = record {
  puts : PrintsBytes g.W.Outside (flat_map (λ place. place_line place.0 place.1) (take l.index (enumerate_from 1 l.windows))) l.initial.outside l.outside done;
  times : PutsTimes g.W.Outside (count_by is_some (take l.index l.windows)) l.initial.outside l.outside done;
}
