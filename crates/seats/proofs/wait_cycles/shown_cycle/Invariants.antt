use Rattle.seats.proofs.Common.{◌≡◌, ◌<◌, ◌+◌, ◌-◌, ◌∷◌, ◌++◌, length, shown_after, waits_in, row_places}
use Rattle.seats.proofs.wait_cycles.shown_cycle.Given as goal

-- the members so far, and those that follow the last one, are the cycle
abbrev pub invariant-loop-step : goal.invariant-loop-step
invariant-loop-step l = record {
  long : length l.cycle.items ≡ l._step + 1;
  last : l.last < length l.waits;
  whole : l.cycle.items ++ shown_after (waits_in l.waits) (row_places l.waits) (length l.waits - l._step) l.from l.last ≡ l.from ∷ shown_after (waits_in l.waits) (row_places l.waits) (length l.waits) l.from l.from;
}
