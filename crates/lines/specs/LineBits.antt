-- A number of sixteen bits is told by the lines whose bits are on.
use Rattle.std.specs.Prelude.{◌≡◌, ◌≢◌, ℕ, zero, suc, ◌+◌, ◌*◌, ◌/◌, ◌^◌, ◌<◌, ◌==◌, cond, Bool, true, false, List, [], ◌∷◌, map, filter}
use Rattle.std.specs.List.{range_with_len}
use Rattle.std.specs.Int.{bit_at}
use Rattle.std.proofs.Common.{arith, refl, ap, ◌∙◌}
use Rattle.std.proofs.lemmas.Bool.{eqb-true, eqb-false}
use Rattle.std.proofs.lemmas.Nat.Bits.{bit_at_lowest, bit_at-suc}
use Rattle.lines.specs.declared.line_set.LineSet.TheInside.{Inside}
use Rattle.lines.specs.LineSets.{passing, lines_of_bits, bits_of}

-- the numbers of a range that starts one later
shifted-filter :
    (p : ℕ → Bool) (low n : ℕ) → filter p (range_with_len (low + 1) n) ≡ map (λ x. x + 1) (filter (λ x. p (x + 1)) (range_with_len low n))
shifted-filter p low zero = refl
shifted-filter p low (suc n) = by_test (p (low + 1)) (shifted-filter p (low + 1) n)
  where
    by_test :
        (passes : Bool)
        → filter p (range_with_len ((low + 1) + 1) n) ≡ map (λ x. x + 1) (filter (λ x. p (x + 1)) (range_with_len (low + 1) n))
        → cond passes ((low + 1) ∷ filter p (range_with_len ((low + 1) + 1) n)) (filter p (range_with_len ((low + 1) + 1) n))
        ≡ map (λ x. x + 1) (cond passes (low ∷ filter (λ x. p (x + 1)) (range_with_len (low + 1) n)) (filter (λ x. p (x + 1)) (range_with_len (low + 1) n)))
    by_test true later = ap (λ (rest : List ℕ). (low + 1) ∷ rest) later
    by_test false later = later

-- a test that answers alike keeps the same numbers
filter-alike : (p q : ℕ → Bool) (xs : List ℕ) → ((x : ℕ) → p x ≡ q x) → filter p xs ≡ filter q xs
filter-alike p q [] same = refl
filter-alike p q (x ∷ xs) same =
    ap (λ b. cond b (x ∷ filter p xs) (filter p xs)) (same x)
    ∙ ap (λ (rest : List ℕ). cond (q x) (x ∷ rest) rest) (filter-alike p q xs same)

-- whether a bit is on
abbrev pub is_on : ℕ → ℕ → Bool
is_on n i = bit_at n i == 1

-- the bits of a number above the lowest are those of its half, one later
pub bits-shifted : (n k : ℕ) → filter (is_on n) (range_with_len 1 k) ≡ map (λ x. x + 1) (filter (is_on (n / 2)) (range_with_len 0 k))
bits-shifted n k =
    shifted-filter (is_on n) 0 k
    ∙ ap (map (λ x. x + 1)) (filter-alike (λ x. is_on n (x + 1)) (is_on (n / 2)) (range_with_len 0 k) (λ x. ap (λ b. b == 1) (later x)))
  where
    later : (x : ℕ) → bit_at n (x + 1) ≡ bit_at (n / 2) x
    later x = let step : x + 1 ≡ suc x = omega arith in ap (bit_at n) step ∙ bit_at-suc n x

-- lines one later count twice
bits_of-shifted : (xs : List ℕ) → bits_of (map (λ x. x + 1) xs) ≡ 2 * bits_of xs
bits_of-shifted [] = refl
bits_of-shifted (x ∷ xs) = omega (arith, double x, bits_of-shifted xs)
  where
    double : (x : ℕ) → 2 ^ (x + 1) ≡ 2 * 2 ^ x
    double x = let step : x + 1 ≡ suc x = omega arith in ap (λ n. 2 ^ n) step ∙ grind arith

bits-told-step : (n k : ℕ) → bits_of (passing k (is_on (n / 2))) ≡ n / 2 → bits_of (passing (suc k) (is_on n)) ≡ n
unfolding passing
bits-told-step n k told = by_bit (bit_at n 0 == 1) refl
  where
    half : bits_of (filter (is_on n) (range_with_len 1 k)) ≡ 2 * (n / 2)
    half = ap bits_of (bits-shifted n k) ∙ bits_of-shifted (filter (is_on (n / 2)) (range_with_len 0 k)) ∙ ap (λ (m : ℕ). 2 * m) told

    by_bit : (on : Bool) → (bit_at n 0 == 1) ≡ on → bits_of (cond on (0 ∷ filter (is_on n) (range_with_len 1 k)) (filter (is_on n) (range_with_len 1 k))) ≡ n
    by_bit true is = let low : bit_at n 0 ≡ 1 = eqb-true (bit_at n 0) 1 is in omega (arith, half, bit_at_lowest n)
    by_bit false is = let low : bit_at n 0 ≢ 1 = eqb-false (bit_at n 0) 1 is in omega (arith, half, bit_at_lowest n)

bits-told-none : (n : ℕ) → n < 1 → bits_of (passing 0 (is_on n)) ≡ n
unfolding passing
bits-told-none n small = omega arith

pub bits-told : (k n : ℕ) → n < 2 ^ k → bits_of (passing k (is_on n)) ≡ n
bits-told zero n small = bits-told-none n small
bits-told (suc k) n small =
    let double : 2 ^ suc k ≡ 2 * 2 ^ k = grind arith in
    bits-told-step n k (bits-told k (n / 2) (omega arith))

pub bits-again : (set : Inside) → set.0 < 65536 → (let again : Inside = record { 0 = bits_of (lines_of_bits set.0) } in again) ≡ set
bits-again set small = ap (λ n. (let again : Inside = record { 0 = n } in again)) (bits-told 16 set.0 small)
