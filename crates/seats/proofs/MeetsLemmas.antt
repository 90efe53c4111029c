-- Whether two sets of a page's lines meet, by the bits that they are told by.
use Rattle.seats.proofs.Common.{arith, ap, sym, ◌∙◌, nat_tests, has, meets, has-append, any-at, any-some, lines_of_bits, is_in-where, none-bits, ◌≡◌, refl, ℕ, ◌<◌, ◌==◌, ◌||◌, ◌&&◌, not, min, true, List, [], ◌∷◌, ◌++◌, length, bit_and, bit_at, bit_at-lt, bit_at_and, is_on}

and-on : (p q : ℕ) → p < 2 → q < 2 → (min p q == 1) ≡ ((p == 1) && (q == 1))
and-on p q small other = grind (arith, nat_tests)

-- a bit is on in both
on-both : (a b x : ℕ) → is_on (bit_and a b) x ≡ (is_on a x && is_on b x)
on-both a b x = ap (λ m. m == 1) (bit_at_and a b x) ∙ and-on (bit_at a x) (bit_at b x) (bit_at-lt a x) (bit_at-lt b x)

-- two sets meet exactly where some number is in both
meets-some : (set other shared : List ℕ) → ((x : ℕ) → has shared x ≡ (has set x && has other x)) → not (length shared == 0) ≡ meets set other
meets-some set other [] same = grind (arith, nat_tests, any-some, same)
meets-some set other (y ∷ ys) same =
    let parts : (has set y ≡ true) × (has other y ≡ true) = let it = same y in grind (arith, nat_tests, it) in
    grind arith ∙ sym (any-at (has other) set y parts.0 parts.1)

-- two sets of lines meet exactly where some bit is on in both
pub meets-bits : (a b : ℕ) → bit_and a b < 65536 → not (bit_and a b == 0) ≡ meets (lines_of_bits a) (lines_of_bits b)
meets-bits a b small = grind (arith, nat_tests, none-bits, meets-some, is_in-where, on-both)

-- a set meets two together exactly where it meets one of them
pub meets_append : (set first second : List ℕ) → meets set (first ++ second) ≡ (meets set first || meets set second)
meets_append [] first second = refl
meets_append (x ∷ xs) first second = grind (arith, has-append, meets_append xs first second)
