use Rattle.seats.proofs.Common.{◌≡◌, ◌==◌, find, drop, number_in, seat_of}
use Rattle.seats.proofs.seats.Seats.seat_of.Given as goal

-- it sits in none of those that were looked at
abbrev pub invariant-loop-seat : goal.invariant-loop-seat
invariant-loop-seat l = seat_of l.self l.number ≡ find (λ seat. number_in l.self seat == l.number) (drop l.seat-index l.seat-items)
