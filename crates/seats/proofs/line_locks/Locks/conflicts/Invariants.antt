use Rattle.seats.proofs.Common.{◌≡◌, passing, is_in_conflict, bits_of_seats}
use Rattle.seats.proofs.line_locks.Locks.conflicts.Given as goal

-- the bits of the seats that were looked at
abbrev pub invariant-loop-other : goal.invariant-loop-other
invariant-loop-other l = l.bits ≡ bits_of_seats (passing l.other (is_in_conflict l.self l.seat l.request.wants.items))
