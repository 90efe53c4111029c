use Rattle.seats.proofs.Common.{◌≡◌, false, take, has}
use Rattle.seats.proofs.seats.Seats.place_of.Given as goal

-- the seat is none of those that were looked at
abbrev pub invariant-loop-other : goal.invariant-loop-other
invariant-loop-other l = record { place : l.place ≡ l.other-index; none : has (take l.other-index l.other-items) l.seat ≡ false }
