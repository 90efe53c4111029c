use Rattle.activations.proofs.Common.{◌≡◌, length}
use Rattle.activations.proofs.activations.Activations.new.Given as goal

-- so many seats have their room
abbrev pub invariant-loop : goal.invariant-loop
invariant-loop l = length l.live.items ≡ l.counter
