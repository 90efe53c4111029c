-- The first number of a range that passes a test.
use Rattle.storage_unit.proofs.Common.{◌≡◌, ℕ, zero, suc, ◌+◌, ◌<◌, ◌≤◌, Bool, true, false, List, [], ◌∷◌, refl, arith, Some, None, find, map, option_map, range_with_len, nat_tests}

-- the first of what a function gives
pub find-map : {A B : Type 0} (t : B → Bool) (f : A → B) (xs : List A) → find t (map f xs) ≡ option_map f (find (λ x. t (f x)) xs)
find-map t f [] = refl
find-map t f (x ∷ xs) = grind (arith, nat_tests, find-map t f xs)

-- tests that agree find the same
pub find-same : {A : Type 0} (p q : A → Bool) (xs : List A) → ((x : A) → p x ≡ q x) → find p xs ≡ find q xs
find-same p q [] same = refl
find-same p q (x ∷ xs) same = grind (arith, nat_tests, same x, find-same p q xs same)

-- where none is found, none passes
pub none-passes : (p : ℕ → Bool) (start n : ℕ) → find p (range_with_len start n) ≡ None → (k : ℕ) → start ≤ k → k < start + n → p k ≡ false
none-passes p start zero none k above below = absurd (omega (arith, above, below))
none-passes p start (suc n) none k above below = grind (arith, nat_tests, λ (later : find p (range_with_len (start + 1) n) ≡ None). none-passes p (start + 1) n later k)

-- and where none passes, none is found
pub none-found : (p : ℕ → Bool) (start n : ℕ) → ((k : ℕ) → start ≤ k → k < start + n → p k ≡ false) → find p (range_with_len start n) ≡ None
none-found p start zero none = refl
none-found p start (suc n) none =
    cc (none start (omega arith) (omega arith), none-found p (start + 1) n (λ k above below. none k (omega (arith, above)) (omega (arith, below))))

-- the first that passes, where none before it does
pub first-found : (p : ℕ → Bool) (start n at : ℕ) → start ≤ at → at < start + n → ((k : ℕ) → start ≤ k → k < at → p k ≡ false) → p at ≡ true → find p (range_with_len start n) ≡ Some at
first-found p start zero at above below none is = absurd (omega (arith, above, below))
first-found p start (suc n) at above below none is = grind (arith, nat_tests, first-found p (start + 1) n)
