use Rattle.drills.proofs.Lemmas.{well, IsPut}
use Rattle.drills.proofs.drill.put_stops.Given as goal

-- the lines of the stops so far are put
abbrev pub invariant-loop-stops : goal.invariant-loop-stops
invariant-loop-stops g l = IsPut g.W.Outside l.job l.initial.outside l.outside well l.stops
