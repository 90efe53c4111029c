use Rattle.seats.proofs.Common.{◌≡◌, ◌<◌, ◌&&◌, ℕ, nat_lt, length, leads, is_on, waits_in, row_places}
use Rattle.seats.proofs.wait_cycles.leading_to.Given as goal

-- the places that lead to the goal in so many steps
abbrev pub invariant-loop-step : goal.invariant-loop-step
invariant-loop-step l = (p : ℕ) → p < 16 → is_on l.leading p ≡ (nat_lt p (length l.waits) && leads (waits_in l.waits) (row_places l.waits) l._step p l.to)
