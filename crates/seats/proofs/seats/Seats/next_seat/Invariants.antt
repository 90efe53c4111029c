use Rattle.seats.proofs.Common.{range_with_len, has, next_seat, ◌≡◌, ◌-◌, not, find}
use Rattle.seats.proofs.seats.Seats.next_seat.Given as goal

-- the lowest free seat is none of those that were looked at
abbrev pub invariant-loop-seat : goal.invariant-loop-seat
invariant-loop-seat l = next_seat l.self ≡ find (λ seat. not (has l.self.taken seat)) (range_with_len l.seat-counter (16 - l.seat-counter))
