use Rattle.seats.proofs.Common.{◌≡◌, replicate, newcomer}
use Rattle.seats.proofs.seats.Seats.new.Given as goal

-- so many seats have nobody
abbrev pub invariant-loop : goal.invariant-loop
invariant-loop l = l.sitters.items ≡ replicate l.counter (newcomer 0 0 (replicate 4 0))
