use Rattle.seats.proofs.Common.{◌≡◌, ◌<◌, ◌&&◌, ℕ, nat_lt, list_any, is_on, waits_in, places}
use Rattle.seats.proofs.wait_cycles.waiting_for.Given as goal

-- the places so far that wait for one of the goals are marked
abbrev pub invariant-loop-place : goal.invariant-loop-place
invariant-loop-place l = (p : ℕ) → p < 16 → is_on l.waiting p ≡ (nat_lt p l.place && list_any (λ next. waits_in l.waits p next && is_on l.goals next) places)
