use Rattle.seats.proofs.Common.{◌≡◌, ◌<◌, ◌&&◌, ℕ, nat_lt, get_or, is_on}
use Rattle.seats.proofs.seats.Seats.places_of.Given as goal

-- the places so far at which such seats stand are marked
abbrev pub invariant-loop-place : goal.invariant-loop-place
invariant-loop-place l = (p : ℕ) → p < 16 → is_on l.places p ≡ (nat_lt p l.place && is_on l.seats (get_or l.seat-items p 0))
