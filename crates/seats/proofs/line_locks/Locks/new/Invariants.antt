use Rattle.seats.proofs.Common.{◌≡◌, replicate, no_lines_of}
use Rattle.seats.proofs.line_locks.Locks.new.Given as goal

-- so many seats hold nothing
abbrev pub invariant-loop : goal.invariant-loop
invariant-loop l = l.seats.items ≡ replicate l.counter (no_lines_of l.pages)
