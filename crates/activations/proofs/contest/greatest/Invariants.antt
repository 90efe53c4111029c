use Rattle.activations.proofs.Common.{◌≡◌, take, victim_of}
use Rattle.activations.proofs.contest.greatest.Given as goal

abbrev pub invariant-loop-number : goal.invariant-loop-number
invariant-loop-number l = l.greatest ≡ victim_of (take l.number-index l.number-items)
