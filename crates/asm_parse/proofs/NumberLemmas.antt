-- Numbers in a radix.
use Rattle.asm_parse.proofs.Common.{◌≡◌, ℕ, zero, suc, ◌+◌, ◌*◌, ◌^◌, ◌<◌, ◌≤◌, List, [], ◌∷◌, length, get_or, take, Option, refl, arith, Decides, digit_value, is_digit, list_all, SomeIff, AllDigits, digits_value, lt-ltb, Decides-and, Decides-ltb, digits_value_more, radix_number, common_steps, nat_tests}
use Rattle.std.proofs.lemmas.Str.Parse.{digits_value-take-le}

-- each of the digits is one
pub digit_at : (radix : ℕ) (digits : List ℕ) (i : ℕ) → AllDigits radix digits → i < length digits → digit_value (get_or digits i 0) < radix
digit_at radix [] i all here = absurd (omega arith)
digit_at radix (d ∷ digits) zero all here = all.0
digit_at radix (d ∷ digits) (suc i) all here = digit_at radix digits i all.1 (omega arith)

-- the number of the digits so far is no larger than that of all
pub value_so_far : (radix : ℕ) (digits : List ℕ) (i : ℕ) → 2 ≤ radix → i < length digits → digits_value radix (take i digits) * radix + digit_value (get_or digits i 0) ≤ digits_value radix digits
value_so_far radix digits i two here =
    let more = digits_value_more radix digits i here in
    let below = digits_value-take-le radix digits (i + 1) (omega arith) in
    omega arith

-- after all digits the number is theirs
pub all_taken : (radix : ℕ) (digits : List ℕ) (i number : ℕ) → length digits ≤ i → AllDigits radix (take i digits) × (number ≡ digits_value radix (take i digits)) × (number < 2 ^ 32) → (AllDigits radix digits × (digits_value radix digits < 2 ^ 32)) × (number ≡ digits_value radix digits)
all_taken radix digits i number past told =
    let whole : take i digits ≡ digits = grind (arith, common_steps) in
    let all = rw whole at told.0 in
    let value : number ≡ digits_value radix digits = rw whole at told.1 in
    ((all, omega (arith, told.2)), value)

-- the test of the digits tells whether all are digits
digits_told : (radix : ℕ) (digits : List ℕ) → Decides (list_all (λ byte. is_digit byte radix) digits) (AllDigits radix digits)
digits_told radix [] = (λ _. tt, λ _. refl)
digits_told radix (d ∷ digits) = grind (arith, nat_tests, Decides-and, Decides-ltb, digits_told radix digits)

pub as_number : (radix : ℕ) (digits : List ℕ) (r : Option ℕ) → 0 < length digits → SomeIff r (AllDigits radix digits × (digits_value radix digits < 2 ^ 32)) (digits_value radix digits) → r ≡ radix_number radix digits
as_number radix digits r some given = grind (arith, nat_tests, Decides-and, digits_told, Decides-ltb, lt-ltb)
