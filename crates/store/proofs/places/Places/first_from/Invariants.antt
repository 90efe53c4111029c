use Rattle.store.proofs.Common.{◌-◌, ◌≤◌, length, HaveNone}
use Rattle.store.proofs.places.Places.first_from.Given as goal

abbrev pub invariant-loop-line : goal.invariant-loop-line
invariant-loop-line l = record {
  low : l.from ≤ l.line;
  before : HaveNone l.self l.from l.line;
}

abbrev pub decreases-loop-line : goal.decreases-loop-line
decreases-loop-line l = length l.self - l.line
