-- Sets of a page's lines: what is in them, and the bits that they are kept as.
use Rattle.lines.proofs.Common.{range_with_len, list_any, ◌⊎◌, arith, refl, ap, sym, ◌∙◌, inl, inr, length-map, nat_tests, zero_from_ones, ones_le_self, bit_at-lt, bit_at-zero, bit_at_lowest, bit_at_and, bit_at_or, bit_at_not, bit_at_ones, bit_at_ones_above, bit_at_mask_inside, bit_at_mask_below, bit_at-trailing_zeros, bit_at_clear_same, bit_at_clear_other, ones_shr, ones_shl, passing, lines_where, lines_of_bits, bits_of, union, difference, between, IsOfPage, is_on, bits-shifted, bits-told, ◌≡◌, ◌≢◌, ℕ, zero, suc, ◌+◌, ◌-◌, ◌*◌, ◌/◌, ◌%◌, ◌^◌, ◌<◌, ◌≤◌, ◌==◌, ◌||◌, ◌&&◌, nat_lt, nat_le, not, cond, min, max, Bool, true, false, List, [], ◌∷◌, length, filter, bit_and, bit_or, count_ones, eqb-true, eqb-false, cases_lt}
use Rattle.std.specs.Int.{bit_at, bit_not, trailing_zeros, w16}
use Rattle.std.specs.Int.Count.{ones_step}

-- a test that answers alike on a range keeps the same numbers of it
filter-range : (p q : ℕ → Bool) (low n : ℕ) → ((x : ℕ) → low ≤ x → x < low + n → p x ≡ q x) → filter p (range_with_len low n) ≡ filter q (range_with_len low n)
filter-range p q low zero same = refl
filter-range p q low (suc n) same = grind (arith, nat_tests, same, q, filter-range p q (low + 1) n (λ x above below. same x (omega arith) (omega arith)))

-- two tests that answer alike on the lines of a page
passing-alike : (n : ℕ) (p q : ℕ → Bool) → ((x : ℕ) → x < n → p x ≡ q x) → passing n p ≡ passing n q
unfolding passing
passing-alike n p q same = filter-range p q 0 n (λ x above below. same x (omega arith))

pub where-alike : (p q : ℕ → Bool) → ((x : ℕ) → x < 16 → p x ≡ q x) → lines_where p ≡ lines_where q
where-alike p q same = passing-alike 16 p q same

-- whether a line is in a set
abbrev is_in : List ℕ → ℕ → Bool
is_in set line = list_any (λ x. x == line) set

in_none : (low x : ℕ) (b : Bool) → false ≡ (nat_le low x && nat_lt x (low + 0) && b)
in_none low x b = grind (arith, nat_tests)

-- the numbers of a range that pass
is_in-filter : (p : ℕ → Bool) (low n x : ℕ) → is_in (filter p (range_with_len low n)) x ≡ (nat_le low x && nat_lt x (low + n) && p x)
is_in-filter p low zero x = in_none low x (p x)
is_in-filter p low (suc n) x = grind (arith, nat_tests, is_in-filter p (low + 1) n x)

range-bounds : (n x : ℕ) (b : Bool) → (nat_le 0 x && nat_lt x (0 + n) && b) ≡ (nat_lt x n && b)
range-bounds n x b = grind (arith, nat_tests)

-- the lines that pass are those of the page that do
is_in-passing : (n : ℕ) (p : ℕ → Bool) (x : ℕ) → is_in (passing n p) x ≡ (nat_lt x n && p x)
unfolding passing
is_in-passing n p x = is_in-filter p 0 n x ∙ range-bounds n x (p x)

pub is_in-where : (p : ℕ → Bool) (x : ℕ) → is_in (lines_where p) x ≡ (nat_lt x 16 && p x)
is_in-where p x = is_in-passing 16 p x

below-is : (x : ℕ) → x < 16 → nat_lt x 16 ≡ true
below-is x below = grind (arith, nat_tests)

pub is_in_where-below : (p : ℕ → Bool) (x : ℕ) → x < 16 → is_in (lines_where p) x ≡ p x
is_in_where-below p x below = is_in-where p x ∙ ap (λ b. b && p x) (below-is x below)

-- what passes a test is a set of lines
pub of_page_where : (p : ℕ → Bool) → IsOfPage (lines_where p)
of_page_where p = where-alike (is_in (lines_where p)) p (λ x below. is_in_where-below p x below)

-- the lines of a page alone are in a set of lines
pub of_page-below : (set : List ℕ) → IsOfPage set → (x : ℕ) → is_in set x ≡ true → x < 16
of_page-below set is x inside = grind (arith, nat_tests, is_in-where)

counted-step : (k m : ℕ) → count_ones (m / 2) ≡ length (passing k (is_on (m / 2))) → count_ones m ≡ length (passing (suc k) (is_on m))
unfolding passing
counted-step k m told = by_bit (bit_at m 0 == 1) refl
  where
    half : length (filter (is_on m) (range_with_len 1 k)) ≡ count_ones (m / 2)
    half = ap length (bits-shifted m k) ∙ length-map (filter (is_on (m / 2)) (range_with_len 0 k)) (λ (x : ℕ). x + 1) ∙ sym told

    by_bit : (on : Bool) → (bit_at m 0 == 1) ≡ on → count_ones m ≡ length (cond on (0 ∷ filter (is_on m) (range_with_len 1 k)) (filter (is_on m) (range_with_len 1 k)))
    by_bit true is = let low : bit_at m 0 ≡ 1 = eqb-true (bit_at m 0) 1 is in omega (arith, half, ones_step m, bit_at_lowest m)
    by_bit false is = let low : bit_at m 0 ≢ 1 = eqb-false (bit_at m 0) 1 is in omega (arith, half, ones_step m, bit_at_lowest m)

counted-none : (m : ℕ) → m < 1 → count_ones m ≡ length (passing 0 (is_on m))
unfolding passing
counted-none m small = omega (arith, ones_le_self m)

counted : (k m : ℕ) → m < 2 ^ k → count_ones m ≡ length (passing k (is_on m))
counted zero m small = counted-none m small
counted (suc k) m small = grind (arith, nat_tests, counted-step, counted k (m / 2) (omega arith))

-- how many lines there are
pub count-bits : (n : ℕ) → n < 65536 → count_ones n ≡ length (lines_of_bits n)
count-bits n small = counted 16 n small

few-filter : (p : ℕ → Bool) (low n : ℕ) → length (filter p (range_with_len low n)) ≤ n
few-filter p low zero = omega arith
few-filter p low (suc n) = grind (arith, nat_tests, few-filter p (low + 1) n)

few-passing : (n : ℕ) (p : ℕ → Bool) → length (passing n p) ≤ n
unfolding passing
few-passing n p = few-filter p 0 n

pub few-lines : (p : ℕ → Bool) → length (lines_where p) ≤ 16
few-lines p = few-passing 16 p

zero-count : (n : ℕ) → (n == 0) ≡ (count_ones n == 0)
zero-count n = grind (arith, nat_tests, eqb-false, ones_le_self, zero_from_ones)

-- whether there is none
pub none-bits : (n : ℕ) → n < 65536 → (n == 0) ≡ (length (lines_of_bits n) == 0)
none-bits n small = zero-count n ∙ ap (λ c. c == 0) (count-bits n small)

-- unions and differences, line by line
or-on : (a b : ℕ) → a < 2 → b < 2 → (max a b == 1) ≡ ((a == 1) || (b == 1))
or-on a b small other = grind (arith, nat_tests)

and_not-on : (a b : ℕ) → a < 2 → b < 2 → (min a (1 - b) == 1) ≡ ((a == 1) && not (b == 1))
and_not-on a b small other = grind (arith, nat_tests)

pub union_bits : (a b : ℕ) → lines_of_bits (bit_or a b) ≡ union (lines_of_bits a) (lines_of_bits b)
union_bits a b = where-alike (is_on (bit_or a b)) (λ x. is_in (lines_of_bits a) x || is_in (lines_of_bits b) x) each
  where
    each : (x : ℕ) → x < 16 → is_on (bit_or a b) x ≡ (is_in (lines_of_bits a) x || is_in (lines_of_bits b) x)
    each x below = grind (arith, nat_tests, bit_at_or, or-on, bit_at-lt, is_in_where-below)

pub difference_bits : (a b : ℕ) → b < 65536 → lines_of_bits (bit_and a (65535 - b)) ≡ difference (lines_of_bits a) (lines_of_bits b)
difference_bits a b small = where-alike (is_on (bit_and a (65535 - b))) (λ x. is_in (lines_of_bits a) x && not (is_in (lines_of_bits b) x)) each
  where
    each : (x : ℕ) → x < 16 → is_on (bit_and a (65535 - b)) x ≡ (is_in (lines_of_bits a) x && not (is_in (lines_of_bits b) x))
    each x below =
        ap (λ m. m == 1) (bit_at_and a (65535 - b) x ∙ ap (min (bit_at a x)) (bit_at_not w16 b x small below))
        ∙ and_not-on (bit_at a x) (bit_at b x) (bit_at-lt a x) (bit_at-lt b x)
        ∙ ap (λ c. c && not (bit_at b x == 1)) (sym (is_in_where-below (is_on a) x below))
        ∙ ap (λ c. is_in (lines_of_bits a) x && not c) (sym (is_in_where-below (is_on b) x below))

-- the first of a range that passes, and the rest of them
filter-first :
    (p q : ℕ → Bool) (low n at : ℕ) → low ≤ at → at < low + n → p at ≡ true → q at ≡ false → ((x : ℕ) → x < at → p x ≡ false) → ((x : ℕ) → x < low + n → x ≢ at → p x ≡ q x)
    → filter p (range_with_len low n) ≡ at ∷ filter q (range_with_len low n)
filter-first p q low zero at above below passes fails before others = absurd (omega arith)
filter-first p q low (suc n) at above below passes fails before others =
    by_place (low == at) refl
    (λ later. filter-first p q (low + 1) n at (omega arith) (omega arith) passes fails before (λ x within other. others x (omega arith) other))
  where
    by_place :
        (here : Bool) → (low == at) ≡ here
        → (low ≢ at → filter p (range_with_len (low + 1) n) ≡ at ∷ filter q (range_with_len (low + 1) n))
        → cond (p low) (low ∷ filter p (range_with_len (low + 1) n)) (filter p (range_with_len (low + 1) n))
        ≡ at ∷ cond (q low) (low ∷ filter q (range_with_len (low + 1) n)) (filter q (range_with_len (low + 1) n))
    by_place true is inner = grind (arith, nat_tests, eqb-true, filter-range)
    by_place false is inner = grind (arith, nat_tests, eqb-false, inner)

passing-first :
    (n : ℕ) (p q : ℕ → Bool) (at : ℕ) → at < n → p at ≡ true → q at ≡ false → ((x : ℕ) → x < at → p x ≡ false)
    → ((x : ℕ) → x < n → x ≢ at → p x ≡ q x) → passing n p ≡ at ∷ passing n q
unfolding passing
passing-first n p q at within passes fails before others = grind (arith, nat_tests, filter-first p q 0 n)

pub first-bits :
    (n : ℕ) → n ≢ 0 → n < 65536
    → lines_of_bits n ≡ trailing_zeros w16 n ∷ lines_of_bits (bit_and n (bit_not w16 (1 * 2 ^ trailing_zeros w16 n % 65536)))
first-bits n some small =
    let told = bit_at-trailing_zeros w16 n (omega arith) small in
    let at : ℕ = trailing_zeros w16 n in
    passing-first 16 (is_on n) (is_on (bit_and n (bit_not w16 (1 * 2 ^ at % 65536)))) at told.0
    (ap (λ m. m == 1) told.1)
    (ap (λ m. m == 1) (bit_at_clear_same w16 n at told.0))
    (λ x before. ap (λ m. m == 1) (told.2 x before))
    (λ x within other. sym (ap (λ m. m == 1) (bit_at_clear_other w16 n at told.0 x within other)))

filter-none : (p : ℕ → Bool) (low n : ℕ) → ((x : ℕ) → p x ≡ false) → filter p (range_with_len low n) ≡ []
filter-none p low zero fails = refl
filter-none p low (suc n) fails = grind (arith, nat_tests, filter-none p (low + 1) n fails)

passing-none : (n : ℕ) (p : ℕ → Bool) → ((x : ℕ) → p x ≡ false) → passing n p ≡ []
unfolding passing
passing-none n p fails = filter-none p 0 n fails

-- no bit, no line
pub no_bits : lines_of_bits 0 ≡ []
no_bits = passing-none 16 (is_on 0) (λ x. ap (λ m. m == 1) (bit_at-zero x))

below-first : (first last x m : ℕ) → x < first → (min m 0 == 1) ≡ (nat_le first x && nat_le x last)
below-first first last x m before = grind (arith, nat_tests)

past-last : (first last x m : ℕ) → last < x → (min 0 m == 1) ≡ (nat_le first x && nat_le x last)
past-last first last x m past = grind (arith, nat_tests)

from-to : (first last x : ℕ) → first ≤ x → x ≤ last → true ≡ (nat_le first x && nat_le x last)
from-to first last x from upto = grind (arith, nat_tests)

-- the lines from a first to a last, as two shifted masks
pub between_bits :
    (first last : ℕ) → first ≤ last → last < 16
    → lines_of_bits (bit_and (65535 / 2 ^ (15 - last)) (65535 * 2 ^ first % 65536)) ≡ between first last
between_bits first last order small =
    ap (λ n. lines_of_bits (bit_and n (65535 * 2 ^ first % 65536))) below
    ∙ ap (λ n. lines_of_bits (bit_and (2 ^ (last + 1) - 1) n)) above
    ∙ where-alike (is_on (bit_and (2 ^ (last + 1) - 1) (65536 - 2 ^ first))) (λ x. nat_le first x && nat_le x last) each
  where
    below : 65535 / 2 ^ (15 - last) ≡ 2 ^ (last + 1) - 1
    below =
        let rest : 16 - (15 - last) ≡ last + 1 = omega arith in
        ones_shr 16 (15 - last) (omega arith) ∙ ap (λ n. 2 ^ n - 1) rest

    above : 65535 * 2 ^ first % 65536 ≡ 65536 - 2 ^ first
    above = ones_shl 16 first (omega arith)

    each : (x : ℕ) → x < 16 → is_on (bit_and (2 ^ (last + 1) - 1) (65536 - 2 ^ first)) x ≡ (nat_le first x && nat_le x last)
    each x within = ap (λ m. m == 1) (bit_at_and (2 ^ (last + 1) - 1) (65536 - 2 ^ first) x) ∙ by_place (cases_lt x first) (cases_lt last x)
      where
        by_place :
            (x < first) ⊎ (first ≤ x) → (last < x) ⊎ (x ≤ last)
            → (min (bit_at (2 ^ (last + 1) - 1) x) (bit_at (65536 - 2 ^ first) x) == 1) ≡ (nat_le first x && nat_le x last)
        by_place (inl before) other = ap (λ m. min (bit_at (2 ^ (last + 1) - 1) x) m == 1) (bit_at_mask_below first 16 x before) ∙ below-first first last x (bit_at (2 ^ (last + 1) - 1) x) before
        by_place (inr from) (inl past) = ap (λ m. min m (bit_at (65536 - 2 ^ first) x) == 1) (bit_at_ones_above (last + 1) x (omega arith)) ∙ past-last first last x (bit_at (65536 - 2 ^ first) x) past
        by_place (inr from) (inr upto) =
            ap (λ m. min m (bit_at (65536 - 2 ^ first) x) == 1) (bit_at_ones (last + 1) x (omega arith))
            ∙ ap (λ m. min 1 m == 1) (bit_at_mask_inside first 16 x from within)
            ∙ from-to first last x from upto

-- the bits at the lines whose bits are on
pub bits_of-lines : (n : ℕ) → n < 65536 → bits_of (lines_of_bits n) ≡ n
bits_of-lines n small = bits-told 16 n small
