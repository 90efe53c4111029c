use Rattle.seats.proofs.Common.{◌≡◌, false, take, some_conflict}
use Rattle.seats.proofs.seat_lines.SeatLines.conflicts.Given as goal

-- nothing that was looked at is in conflict
abbrev pub invariant-loop-want : goal.invariant-loop-want
invariant-loop-want l = some_conflict l.self (take l.want-index l.request.wants.items) ≡ false
