-- What is in a set.
use Rattle.lines.proofs.Common.{◌≡◌, refl, ℕ, zero, suc, ◌+◌, ◌<◌, ◌≤◌, ◌==◌, ◌||◌, ◌&&◌, nat_le, nat_lt, Bool, true, List, [], ◌∷◌, ◌++◌, filter, range_with_len, list_any, arith, ◌∙◌, nat_tests, has, distinct}
use Rattle.std.proofs.lemmas.List.Folds.{list_any-append}

pub has-append : (xs ys : List ℕ) (x : ℕ) → has (xs ++ ys) x ≡ (has xs x || has ys x)
has-append xs ys x = list_any-append (λ y. y == x) xs ys

pub has_left : (xs ys : List ℕ) (x : ℕ) → has xs x ≡ true → has (xs ++ ys) x ≡ true
has_left xs ys x inside = grind (arith, has-append)

pub has_right : (xs ys : List ℕ) (x : ℕ) → has ys x ≡ true → has (xs ++ ys) x ≡ true
has_right xs ys x inside = grind (arith, has-append)

-- a filter keeps the numbers that pass
pub has-filter : (p : ℕ → Bool) (xs : List ℕ) (x : ℕ) → has (filter p xs) x ≡ (has xs x && p x)
has-filter p [] x = refl
has-filter p (y ∷ ys) x = grind (arith, nat_tests, has-filter p ys x)

-- each once, they are the same set
pub has-distinct : (xs : List ℕ) (x : ℕ) → has (distinct xs) x ≡ has xs x
has-distinct [] x = refl
has-distinct (y ∷ ys) x = grind (arith, nat_tests, has-distinct ys x)

-- the numbers of a range
pub has-range : (low n x : ℕ) → has (range_with_len low n) x ≡ (nat_le low x && nat_lt x (low + n))
has-range low zero x = grind (arith, nat_tests)
has-range low (suc n) x = grind (arith, nat_tests, has-range (low + 1) n x)

-- a number between the ends of a range is in it
pub in_range : (low n x : ℕ) → low ≤ x → x < low + n → has (range_with_len low n) x ≡ true
in_range low n x above below = has-range low n x ∙ grind (arith, nat_tests)

-- a number of the set that passes settles the test
pub any-at : (p : ℕ → Bool) (xs : List ℕ) (x : ℕ) → has xs x ≡ true → p x ≡ true → list_any p xs ≡ true
any-at p [] x inside passes = absurd (cc)
any-at p (y ∷ ys) x inside passes = grind (arith, nat_tests, any-at p ys x)

-- where the test is settled, some number of the set passes
pub any-some : (p : ℕ → Bool) (xs : List ℕ) → list_any p xs ≡ true → (x : ℕ) × (has xs x ≡ true) × (p x ≡ true)
any-some p [] inside = absurd (cc)
any-some p (y ∷ ys) inside = grind (arith, nat_tests, any-some p ys)
