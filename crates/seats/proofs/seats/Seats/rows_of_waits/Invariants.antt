use Rattle.seats.proofs.Common.{◌≡◌, ◌<◌, ℕ, length, waits_in, seat_waits, seat_at}
use Rattle.seats.proofs.seats.Seats.rows_of_waits.Given as goal

-- the rows of those that were looked at
abbrev pub invariant-loop-seat : goal.invariant-loop-seat
invariant-loop-seat l = record {
  long : length l.rows.items ≡ l.seat-index;
  rows : (from to : ℕ) → from < l.seat-index → to < length l.self.taken → waits_in l.rows.items from to ≡ seat_waits l.self (seat_at l.self from) (seat_at l.self to);
}
