use Rattle.seats.proofs.Common.{◌≡◌, take, length, with_wants}
use Rattle.seats.proofs.seat_lines.SeatLines.take.Given as goal

-- what was looked at is held too
abbrev pub invariant-loop-want : goal.invariant-loop-want
invariant-loop-want l = (l.self ≡ with_wants l.initial.self (take l.want-index l.request.wants.items)) × (length l.self ≡ length l.initial.self)
