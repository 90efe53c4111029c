-- Chains of places, and what a page that comes or leaves makes of them.
use Rattle.frame_pool.proofs.Common.{subst, ◌≡◌, ℕ, zero, suc, ◌<◌, true, false, List, [], ◌∷◌, ◌++◌, length, refl, sym, ◌∙◌, ap, arith, ◌==◌, slice_index, slice_set, cases_eq, nat_tests, get_or-set_same, get_or-set_other, has, is_apart, taken_out, length-set, ◌≢◌}
use Rattle.std.proofs.Common.{⊎_elim}
use Rattle.frame_pool.specs.Arrivals.{IsChain, led}
use Rattle.frame_pool.proofs.SoundLemmas.{first-apart, absent-taken}

-- what is read where one place was written
read-same : (xs : List ℕ) (i j v : ℕ) → i ≡ j → i < length xs → slice_index (slice_set xs i v) j ≡ v
read-same xs i j v same below = grind (arith, nat_tests, get_or-set_same)

read-other : (xs : List ℕ) (i j v : ℕ) → (i == j) ≡ false → slice_index (slice_set xs i v) j ≡ slice_index xs j
read-other xs i j v differ = grind (arith, nat_tests, get_or-set_other)

-- the places of a chain are those that one after another leads to
pub chain-led : (n b : List ℕ) (from : ℕ) (xs : List ℕ) (to : ℕ) → IsChain n b from xs to → led n (length xs) (slice_index n from) ≡ xs
chain-led n b from [] to chain = refl
chain-led n b from (x ∷ xs) to chain =
    ap (λ (y : ℕ). y ∷ led n (length xs) (slice_index n y)) chain.0.0 ∙ ap (λ (ys : List ℕ). x ∷ ys) (chain-led n b x xs to chain.1)

-- so many as it is long
pub led-long : (n : List ℕ) (count at : ℕ) → length (led n count at) ≡ count
led-long n zero at = refl
led-long n (suc count) at = ap suc (led-long n count (slice_index n at))

-- what is before the end of a chain is one of its places
pub last-in : (n b : List ℕ) (from : ℕ) (xs : List ℕ) (to : ℕ) → IsChain n b from xs to → has (from ∷ xs) (slice_index b to) ≡ true
last-in n b from [] to chain = let is : slice_index b to ≡ from = chain.1 in grind (arith, nat_tests, is)
last-in n b from (x ∷ xs) to chain = let later = last-in n b x xs to chain.1 in grind (arith, nat_tests, later)

-- so is what is before a page, and what is next to it, or that is the end
pub before-in : (n b : List ℕ) (from : ℕ) (xs : List ℕ) (to p : ℕ) → IsChain n b from xs to → has xs p ≡ true → has (from ∷ xs) (slice_index b p) ≡ true
before-in n b from [] to p chain inside = absurd (let clash : false ≡ true = inside in cc)
before-in n b from (x ∷ xs) to p chain inside =
    let is : slice_index b x ≡ from = chain.0.1 in
    let later = before-in n b x xs to p chain.1 in
    grind (arith, nat_tests, is, later, inside)

pub next-in : (n b : List ℕ) (from : ℕ) (xs : List ℕ) (to p : ℕ) → IsChain n b from xs to → has xs p ≡ true → has (to ∷ xs) (slice_index n p) ≡ true
next-in n b from [] to p chain inside = absurd (let clash : false ≡ true = inside in cc)
next-in n b from (x ∷ []) to p chain inside =
    let is : slice_index n x ≡ to = chain.1.0 in
    grind (arith, nat_tests, is, inside)
next-in n b from (x ∷ y ∷ ys) to p chain inside =
    let is : slice_index n x ≡ y = chain.1.0.0 in
    let later = next-in n b x (y ∷ ys) to p chain.1 in
    grind (arith, nat_tests, is, later, inside)

-- a chain stays where places are written that it doesn't read
chain-same :
    (n b : List ℕ) (from : ℕ) (xs : List ℕ) (to p v q w : ℕ) → IsChain n b from xs to
    → has (from ∷ xs) p ≡ false → has xs q ≡ false → (q == to) ≡ false → IsChain (slice_set n p v) (slice_set b q w) from xs to
chain-same n b from [] to p v q w chain next last end =
    (read-other n p from v (grind (arith, nat_tests, next)) ∙ chain.0, read-other b q to w end ∙ chain.1)
chain-same n b from (x ∷ xs) to p v q w chain next last end = (
  (read-other n p from v (grind (arith, nat_tests, next)) ∙ chain.0.0, read-other b q x w (grind (arith, nat_tests, last)) ∙ chain.0.1),
  chain-same n b x xs to p v q w chain.1 (grind (arith, nat_tests, next)) (grind (arith, nat_tests, last)) end,
)

-- the first place of a chain leaves it
out-first :
    (n b : List ℕ) (from p : ℕ) (xs : List ℕ) (to next : ℕ) → IsChain n b p xs to → next ≡ slice_index n p
    → is_apart (from ∷ p ∷ xs) ≡ true → has (p ∷ xs) to ≡ false → from < length n → next < length b
    → IsChain (slice_set n from next) (slice_set b next from) from xs to
out-first n b from p [] to next chain is apart end low high =
    (read-same n from from next refl low ∙ is ∙ chain.0, read-same b next to from (is ∙ chain.0) high)
out-first n b from p (y ∷ ys) to next chain is apart end low high =
    let at : next ≡ y = is ∙ chain.0.0 in
    let parts = first-apart from (p ∷ y ∷ ys) apart in
    let others = first-apart p (y ∷ ys) parts.1 in
    let last = first-apart y ys others.1 in (
      (read-same n from from next refl low ∙ at, read-same b next y from at high),
      chain-same n b y ys to from next next from chain.1
          (grind (arith, nat_tests, parts)) (grind (arith, nat_tests, last, at)) (grind (arith, nat_tests, end, at)),
    )

-- a page leaves a chain
pub chain-out :
    (n b : List ℕ) (from : ℕ) (xs : List ℕ) (to p before next : ℕ) → IsChain n b from xs to → before ≡ slice_index b p → next ≡ slice_index n p
    → is_apart (from ∷ xs) ≡ true → has xs to ≡ false → before < length n → next < length b → has xs p ≡ true
    → IsChain (slice_set n before next) (slice_set b next before) from (taken_out (p ∷ []) xs) to
chain-out n b from [] to p before next chain was is apart end low high inside = absurd (let clash : false ≡ true = inside in cc)
chain-out n b from (x ∷ xs) to p before next chain was is apart end low high inside =
    ⊎_elim
    (λ here. out-here here)
    (λ other. out-later other (λ within. chain-out n b x xs to p before next chain.1 was is parts.1 (grind (arith, nat_tests, end)) low high within))
    (cases_eq x p)
  where
    parts : (has (x ∷ xs) from ≡ false) × (is_apart (x ∷ xs) ≡ true)
    parts = first-apart from (x ∷ xs) apart

    rest : (has xs x ≡ false) × (is_apart xs ≡ true)
    rest = first-apart x xs parts.1

    Goal : List ℕ → Type 0
    Goal list = IsChain (slice_set n before next) (slice_set b next before) from list to

    -- the same from the place behind
    GoalBehind : List ℕ → Type 0
    GoalBehind list = IsChain (slice_set n before next) (slice_set b next before) x list to

    out-here : x ≡ p → Goal (taken_out (p ∷ []) (x ∷ xs))
    out-here here =
        let first : before ≡ from = was ∙ ap (slice_index b) (sym here) ∙ chain.0.1 in
        let taken : xs ≡ taken_out (p ∷ []) (x ∷ xs) = grind (arith, nat_tests, absent-taken x xs rest.0, here) in
        subst Goal taken
        (rw first (out-first n b from x xs to next chain.1 (is ∙ ap (slice_index n) (sym here)) apart end (rw (← first) low) high))

    out-later : x ≢ p → (has xs p ≡ true → GoalBehind (taken_out (p ∷ []) xs)) → Goal (taken_out (p ∷ []) (x ∷ xs))
    out-later other later =
        let within : has xs p ≡ true = grind (arith, nat_tests, inside, other) in
        let low_in = before-in n b x xs to p chain.1 within in
        let high_in = next-in n b x xs to p chain.1 within in
        let taken : x ∷ taken_out (p ∷ []) xs ≡ taken_out (p ∷ []) (x ∷ xs) = grind (arith, nat_tests, other) in
        subst Goal taken (
          (
            read-other n before from next (grind (arith, nat_tests, low_in, was, parts)) ∙ chain.0.0,
            read-other b next x before (grind (arith, nat_tests, high_in, is, rest, end)) ∙ chain.0.1,
          ),
          later within,
        )

-- a page comes to the end of a chain
pub chain-push :
    (n b : List ℕ) (from : ℕ) (xs : List ℕ) (to p last : ℕ) → IsChain n b from xs to → last ≡ slice_index b to
    → is_apart (from ∷ xs) ≡ true → has xs to ≡ false → has (from ∷ xs) p ≡ false → (p == to) ≡ false
    → last < length n → p < length n → p < length b → to < length b
    → IsChain (slice_set (slice_set n last p) p to) (slice_set (slice_set b p last) to p) from (xs ++ p ∷ []) to
chain-push n b from [] to p last chain is apart end absent new low there back high =
    let first : last ≡ from = is ∙ chain.1 in (
      (
        read-other (slice_set n last p) p from to (grind (arith, nat_tests, absent)) ∙ read-same n last from p first low,
        read-other (slice_set b p last) to p p (grind (arith, nat_tests, new)) ∙ read-same b p p last refl back ∙ first,
      ),
      (
        read-same (slice_set n last p) p p to refl (rw length-set there),
        read-same (slice_set b p last) to to p refl (rw length-set high),
      ),
    )
chain-push n b from (x ∷ xs) to p last chain is apart end absent new low there back high =
    let parts = first-apart from (x ∷ xs) apart in
    let last_in = last-in n b x xs to chain.1 in (
      (
        read-other (slice_set n last p) p from to (grind (arith, nat_tests, absent))
            ∙ read-other n last from p (grind (arith, nat_tests, last_in, is, parts))
            ∙ chain.0.0,
        read-other (slice_set b p last) to x p (grind (arith, nat_tests, end))
            ∙ read-other b p x last (grind (arith, nat_tests, absent))
            ∙ chain.0.1,
      ),
      chain-push n b x xs to p last chain.1 is parts.1 (grind (arith, nat_tests, end)) (grind (arith, nat_tests, absent)) new low there back high,
    )
