-- How many numbers are in a set.
use Rattle.lines.proofs.Common.{◌≡◌, refl, ℕ, zero, suc, ◌+◌, ◌<◌, ◌≤◌, ◌==◌, not, Bool, true, false, List, [], ◌∷◌, ◌++◌, length, filter, range_with_len, arith, ap, ◌∙◌, inl, inr, cases_Bool, cond-true, cond-false, nat_tests, has, distinct, size}
use Rattle.lines.proofs.SetLemmas.{has-append, has-filter, has-range, in_range}

-- each number of the first set is in the second
pub record IsPart (set other : List ℕ) : Type 0 where
  pub among : (x : ℕ) → has set x ≡ true → has other x ≡ true

-- a set without a number
abbrev without : ℕ → List ℕ → List ℕ
without x set = filter (λ y. not (y == x)) set

without-none : (x : ℕ) (ys : List ℕ) → has ys x ≡ false → without x ys ≡ ys
without-none x [] none = refl
without-none x (y ∷ ys) none = grind (arith, nat_tests, without-none x ys)

-- a number that is seen later doesn't count
size-seen : (y : ℕ) (ys : List ℕ) → has ys y ≡ true → size (y ∷ ys) ≡ size ys
size-seen y ys seen = ap length (cond-true (has ys y) (distinct ys) (y ∷ distinct ys) seen)

size-new : (y : ℕ) (ys : List ℕ) → has ys y ≡ false → size (y ∷ ys) ≡ suc (size ys)
size-new y ys new = ap length (cond-false (has ys y) (distinct ys) (y ∷ distinct ys) new)

-- a set has one more than without one of its numbers
size-without : (x : ℕ) (ys : List ℕ) → has ys x ≡ true → size ys ≡ suc (size (without x ys))
size-without x [] inside = absurd (cc)
size-without x (y ∷ ys) inside = grind (arith, nat_tests, has-filter, without-none, size-without x ys)

-- a part has no more numbers
pub size-part : (xs ys : List ℕ) → IsPart xs ys → size xs ≤ size ys
size-part [] ys part = omega arith
size-part (x ∷ xs) ys part = elim (cases_Bool (has xs x)) [
  | inl seen ↦ omega (arith, size-seen x xs seen, size-part xs ys (record { among = λ z inside. part.among z (grind (arith, nat_tests)) }))
  | inr new ↦
      let less = size-part xs (without x ys) (record { among = λ z inside. let there = part.among z (grind (arith, nat_tests)) in grind (arith, nat_tests, has-filter) }) in
      omega (arith, less, size-new x xs new, size-without x ys (part.among x (grind (arith, nat_tests))))
]

-- two sets with the same numbers have equally many
pub size-alike : (xs ys : List ℕ) → IsPart xs ys → IsPart ys xs → size xs ≡ size ys
size-alike xs ys part back = omega (arith, size-part xs ys part, size-part ys xs back)

-- sets that share no number add up
pub size-apart : (xs ys : List ℕ) → ((x : ℕ) → has xs x ≡ true → has ys x ≡ false) → size (xs ++ ys) ≡ size xs + size ys
size-apart [] ys apart = omega arith
size-apart (x ∷ xs) ys apart = grind (arith, nat_tests, has-append, apart, size-apart xs ys (λ z inside. apart z (grind arith)))

-- a union has the numbers of the first set and those new in the second
pub size-append : (xs ys : List ℕ) → size (xs ++ ys) ≡ size xs + size (filter (λ y. not (has xs y)) ys)
size-append xs ys =
    size-alike (xs ++ ys) (xs ++ new) (record { among = there }) (record { among = back }) ∙ size-apart xs new apart
  where
    new : List ℕ
    new = filter (λ y. not (has xs y)) ys

    there : (x : ℕ) → has (xs ++ ys) x ≡ true → has (xs ++ new) x ≡ true
    there x inside = grind (arith, has-append, has-filter)

    back : (x : ℕ) → has (xs ++ new) x ≡ true → has (xs ++ ys) x ≡ true
    back x inside = grind (arith, has-append, has-filter)

    apart : (x : ℕ) → has xs x ≡ true → has new x ≡ false
    apart x inside = grind (arith, has-filter)

-- a range has as many numbers as its length
pub size-range : (low n : ℕ) → size (range_with_len low n) ≡ n
size-range low zero = refl
size-range low (suc n) = grind (arith, nat_tests, has-range, size-new, size-range (low + 1) n)

filter-new : (p : ℕ → Bool) (low n : ℕ) → has (filter p (range_with_len (low + 1) n)) low ≡ false
filter-new p low n = grind (arith, nat_tests, has-range (low + 1) n low, has-filter p (range_with_len (low + 1) n) low)

-- a part of a range stands in it once each
size-filter_range : (p : ℕ → Bool) (low n : ℕ) → size (filter p (range_with_len low n)) ≡ length (filter p (range_with_len low n))
size-filter_range p low zero = refl
size-filter_range p low (suc n) = grind (arith, filter-new p low n, size-filter_range p (low + 1) n)

-- a set of numbers below a bound is counted by trying each of them
pub size-counted : (set : List ℕ) (n : ℕ) → ((x : ℕ) → has set x ≡ true → x < n) → size set ≡ length (filter (has set) (range_with_len 0 n))
size-counted set n below =
    size-alike set (filter (has set) (range_with_len 0 n)) (record { among = there }) (record { among = back })
    ∙ size-filter_range (has set) 0 n
  where
    there : (x : ℕ) → has set x ≡ true → has (filter (has set) (range_with_len 0 n)) x ≡ true
    there x inside = let here = in_range 0 n x (omega arith) (omega (arith, below x inside)) in grind (arith, has-filter)

    back : (x : ℕ) → has (filter (has set) (range_with_len 0 n)) x ≡ true → has set x ≡ true
    back x inside = grind (arith, has-filter)
