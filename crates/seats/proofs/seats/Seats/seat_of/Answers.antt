use Rattle.seats.proofs.Common.{eq-eqb, ne_eqb, drop_more, ◌≡◌, ◌+◌, ◌<◌, ℕ, Bool, cond, find, drop, get_or, length, List, Some, ap, ◌∙◌, arith, common_steps}
use Rattle.seats.proofs.seats.Seats.seat_of.Goals as goal

-- one is looked at: it sits there, or in one of the others
one-looked : (p : ℕ → Bool) (seats : List ℕ) (k : ℕ) (here : Bool) → k < length seats → p (get_or seats k 0) ≡ here
    → find p (drop k seats) ≡ cond here (Some (get_or seats k 0)) (find p (drop (k + 1) seats))
one-looked p seats k here within is = ap (find p) (drop_more seats k 0 within) ∙ ap (λ (b : Bool). cond b (Some (get_or seats k 0)) (find p (drop (k + 1) seats))) is

pub loop-seat-preserved : goal.loop-seat-preserved
loop-seat-preserved c = grind (arith, common_steps, one-looked, ne_eqb)

pub returns-then-sitter-number : goal.returns-then-sitter-number
returns-then-sitter-number c = grind (arith, common_steps, one-looked, eq-eqb)
