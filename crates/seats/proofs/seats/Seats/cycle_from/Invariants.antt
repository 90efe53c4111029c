use Rattle.seats.proofs.Common.{◌≡◌, take, map, length, number_in, seat_at}
use Rattle.seats.proofs.seats.Seats.cycle_from.Given as goal

-- the numbers at the places that were looked at
abbrev pub invariant-loop-place : goal.invariant-loop-place
invariant-loop-place l = record {
  long : length l.cycle.items ≡ l.place-index;
  numbers : l.cycle.items ≡ map (λ place. number_in l.self (seat_at l.self place)) (take l.place-index l.place-items);
}
