-- Words and numbers in front of a byte that is in none.
use Rattle.text_line.proofs.Common.{◌≡◌, ℕ, ◌^◌, ◌<◌, ◌≤◌, List, [], ◌∷◌, ◌++◌, decimal, refl, arith, AllByRecursion, nat_tests, decimal_injective, decimal_is_IsNumeral}
use Rattle.std.specs.Char.{digit_value}
use Rattle.std.specs.Str.Parse.{AllDigits}

-- the bytes of a word all come behind the space
abbrev pub IsWord : List ℕ → Type 0
IsWord word = AllByRecursion (λ byte. 32 < byte) word

digit_inside : (digit : ℕ) → digit_value digit < 10 → 32 < digit
digit_inside digit small = grind (arith, nat_tests)

digits_word : (digits : List ℕ) → AllDigits 10 digits → IsWord digits
digits_word [] are = tt
digits_word (digit ∷ digits) are = (digit_inside digit are.0, digits_word digits are.1)

pub number_word : (n : ℕ) → n < 2 ^ 64 → IsWord (decimal n)
number_word n small = digits_word (decimal n) (decimal_is_IsNumeral n small).0.1

-- two words in front of a byte before them are the same
pub word_cut : (stop : ℕ) (a b x y : List ℕ) → stop ≤ 32 → IsWord a → IsWord b → a ++ stop ∷ x ≡ b ++ stop ∷ y → (a ≡ b) × (x ≡ y)
word_cut stop [] [] x y small one two is = (refl, cc)
word_cut stop [] (d ∷ b) x y small one two is = let same : stop ≡ d = cc in absurd (omega (arith, same, small, two.0))
word_cut stop (c ∷ a) [] x y small one two is = let same : c ≡ stop = cc in absurd (omega (arith, same, small, one.0))
word_cut stop (c ∷ a) (d ∷ b) x y small one two is =
    let same : c ≡ d = cc in
    let left : a ++ stop ∷ x ≡ b ++ stop ∷ y = cc in
    let rest = word_cut stop a b x y small one.1 two.1 left in
    (cc, rest.1)

-- and so are two numbers
pub same_number : (stop m n : ℕ) (x y : List ℕ) → stop ≤ 32 → m < 2 ^ 64 → n < 2 ^ 64 → decimal m ++ stop ∷ x ≡ decimal n ++ stop ∷ y → (m ≡ n) × (x ≡ y)
same_number stop m n x y small one two is =
    let cut = word_cut stop (decimal m) (decimal n) x y small (number_word m one) (number_word n two) is in
    (decimal_injective m n one two cut.0, cut.1)
