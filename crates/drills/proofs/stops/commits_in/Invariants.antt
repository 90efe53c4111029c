use Rattle.drills.proofs.Lemmas.{IsCounted}
use Rattle.drills.proofs.stops.commits_in.Given as goal

-- what was counted, and what is still to be counted from the start of the line
abbrev pub invariant-loop-index : goal.invariant-loop-index
invariant-loop-index l = IsCounted l.printed l.start l.index l.count
