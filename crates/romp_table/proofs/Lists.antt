-- What a look-up found, and what was computed of each element, in any list.
use Rattle.romp_table.proofs.Common.{range_with_len, list_all, slice_get, get_or-map-range_with_len, nat_tests, ◌≡◌, ℕ, zero, suc, ◌+◌, ◌<◌, Bool, true, false, cond, List, [], ◌∷◌, Option, Some, refl, ap, map, length, find, slice_index, arith}
use Rattle.std.proofs.lemmas.Bool.{and_parts}

found_by : {X : Type 0} (p : X → Bool) (y x : X) (rest : Option X) (t : Bool) → p y ≡ t → cond t (Some y) rest ≡ Some x → (rest ≡ Some x → p x ≡ true) → p x ≡ true
found_by p y x rest true is e later = grind arith
found_by p y x rest false is e later = later e

-- what a look-up found passes its test
pub find_passes : {X : Type 0} (p : X → Bool) (xs : List X) (x : X) → find p xs ≡ Some x → p x ≡ true
find_passes p [] x e = grind arith
find_passes p (y ∷ xs) x e = found_by p y x (find p xs) (p y) refl e (find_passes p xs x)

-- a test that all elements pass is passed by each
pub all_at : {X : Type 0} (p : X → Bool) (xs : List X) (i : ℕ) (x : X) → list_all p xs ≡ true → slice_get xs i ≡ Some x → p x ≡ true
all_at p [] i x every e = grind arith
all_at p (y ∷ xs) zero x every e = let h = (and_parts (p y) (list_all p xs) every).0 in grind arith
all_at p (y ∷ xs) (suc i) x every e = all_at p xs i x (and_parts (p y) (list_all p xs) every).1 e

-- a list of a function's values has each of them at its argument
pub value_at : (f : ℕ → ℕ) (n : ℕ) (xs : List ℕ) → map f (range_with_len 0 n) ≡ xs → (i : ℕ) → i < n → f i ≡ slice_index xs i
value_at f n xs e i below = grind (arith, nat_tests, get_or-map-range_with_len)

-- where an index is within a list, there is an element
pub found_within : {X : Type 0} (xs : List X) (i : ℕ) → i < length xs → (x : X) × (slice_get xs i ≡ Some x)
found_within [] i within = absurd (omega arith)
found_within (x ∷ xs) zero within = (x, refl)
found_within (x ∷ xs) (suc i) within = found_within xs i (omega arith)

-- the numbers from one on, one by one
pub range_at : (a n i x : ℕ) → slice_get (range_with_len a n) i ≡ Some x → x ≡ a + i
range_at a zero i x e = grind arith
range_at a (suc n) zero x e = grind arith
range_at a (suc n) (suc i) x e = let h = range_at (a + 1) n i x e in omega arith

pub range_found : (a n i : ℕ) → i < n → slice_get (range_with_len a n) i ≡ Some (a + i)
range_found a zero i below = absurd (omega arith)
range_found a (suc n) zero below = ap Some (omega arith)
range_found a (suc n) (suc i) below = grind (arith, nat_tests, range_found (a + 1) n i)
