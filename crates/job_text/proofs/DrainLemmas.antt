-- A drain, written out.
use Rattle.job_text.proofs.Common.{◌≡◌, ℕ, zero, suc, ◌+◌, ◌*◌, ◌<◌, ◌≤◌, List, [], ◌∷◌, ◌++◌, length, refl, ap, ◌∙◌, arith, append_assoc, add-one, length-append, Event, Turn, rounds_of, turns_to, nat_tests}

-- one turn more
pub turn_more : (before now next : List Event) (limit n : ℕ) → now ≡ before ++ turns_to limit n → next ≡ now ++ Turn (n + 1) limit ∷ [] → next ≡ before ++ turns_to limit (n + 1)
unfolding turns_to
turn_more before now next limit n so_far pushed = rw (add-one) (pushed ∙ ap (λ events. events ++ Turn (n + 1) limit ∷ []) so_far ∙ append_assoc before (turns_to limit n) (Turn (n + 1) limit ∷ []))

-- there are as many turns as activations
pub length-turns_to : (limit n : ℕ) → length (turns_to limit n) ≡ n
unfolding turns_to
length-turns_to limit zero = refl
length-turns_to limit (suc n) = omega (arith, length-append (turns_to limit n) (Turn (n + 1) limit ∷ []), length-turns_to limit n)

-- one round more
pub round_more : (before now next : List Event) (limit last n : ℕ) → now ≡ before ++ rounds_of limit last n → next ≡ now ++ turns_to limit last → next ≡ before ++ rounds_of limit last (n + 1)
unfolding rounds_of
round_more before now next limit last n so_far pushed = rw (add-one) (pushed ∙ ap (λ events. events ++ turns_to limit last) so_far ∙ append_assoc before (rounds_of limit last n) (turns_to limit last))

-- there are as many turns as rounds and activations make
pub length-rounds_of : (limit last n : ℕ) → length (rounds_of limit last n) ≡ n * last
unfolding rounds_of
length-rounds_of limit last zero = omega arith
length-rounds_of limit last (suc n) = omega (arith, length-append (rounds_of limit last n) (turns_to limit last), length-rounds_of limit last n, length-turns_to limit last)

pub rounds_short : (before now : List Event) (limit last n : ℕ) → now ≡ before ++ rounds_of limit last n → length now ≡ length before + n * last
rounds_short before now limit last n so_far = omega (arith, ap length so_far, length-append before (rounds_of limit last n), length-rounds_of limit last n)

-- one round more is within all rounds
pub round_fits : (before now next last n rounds : ℕ) → n < rounds → now ≡ before + n * last → next ≤ now + last → next ≤ before + rounds * last
round_fits before now next last n rounds inside is short = grind (arith, nat_tests)

-- the rounds so far are within all rounds
pub rounds_within : (before now last n rounds : ℕ) → n ≤ rounds → now ≡ before + n * last → now ≤ before + rounds * last
rounds_within before now last n rounds inside is = grind (arith, nat_tests)
