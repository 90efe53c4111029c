use Rattle.seats.proofs.Common.{◌≡◌, take, map, length, number_in}
use Rattle.seats.proofs.seats.Seats.numbers.Given as goal

-- the numbers of those that were looked at
abbrev pub invariant-loop-seat : goal.invariant-loop-seat
invariant-loop-seat l = record {
  long : length l.numbers.items ≡ l.seat-index;
  numbers : l.numbers.items ≡ map (number_in l.self) (take l.seat-index l.seat-items);
}
