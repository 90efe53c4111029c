-- A word, a number or a mark at the front of a line; and the tokens that a line has are such as a line can have.
use Rattle.asm_parse.proofs.Common.{◌≡◌, ℕ, ◌<◌, ◌≤◌, ◌^◌, nat_eq, true, false, List, [], ◌∷◌, ◌++◌, length, codes, decimal, Some, refl, sym, ◌∙◌, arith, digit_value, is_ascii_alphanumeric, list_all, starts_with, AllDigits, digits_value, le-leb, nat_tests, drop_at, take_at, literal_number, token_before, begin_at, begins_word, continues_word, number_begins, prefix_len, take_while, word_begins, tokens_past, Token, Word, Number, Comma, Open, Close, Colon, Plus, Minus, Takes, zero, suc, drop, Option, Result, Ok, subst, AllByRecursion, radix_number, mark_begins, more_of, then_tokens, tokens, Begin}
use Rattle.std.proofs.lemmas.Fmt.{decimal_is_IsNumeral}
use Rattle.asm_parse.proofs.NumberLemmas.{as_number}
use Rattle.asm_parse.proofs.TokenLemmas.{from_byte, Stops, run_length, taken_pass}

-- the bytes of a word
abbrev pub IsWord : List ℕ → Type 0
IsWord [] = ⊥
IsWord (byte ∷ bytes) = (begins_word byte ≡ true) × (list_all continues_word bytes ≡ true) × (length (byte ∷ bytes) ≤ 31)

-- a token that a line can have
abbrev pub IsToken : Token → Type 0
IsToken (Word word) = IsWord word
IsToken (Number number) = number < 2 ^ 32
IsToken _ = Unit {0}

-- the word at the front of a line
pub word_front : (word tail : List ℕ) → IsWord word → Stops continues_word tail → tokens_past (word ++ tail) 0 ≡ token_before (Word word) (tokens_past tail 0)
word_front word tail is stops = grind (arith, nat_tests, run_length, le-leb, take_at, from_byte, drop_at)

digit_inside : (digit : ℕ) → digit_value digit < 10 → (48 ≤ digit) × (digit ≤ 57)
digit_inside digit small = (grind (arith, nat_tests), grind (arith, nat_tests))

digit_begun : (byte : ℕ) (rest : List ℕ) → (48 ≤ byte) × (byte ≤ 57)
    → begin_at byte rest ≡ number_begins (prefix_len is_ascii_alphanumeric rest)
    (literal_number (byte ∷ take_while is_ascii_alphanumeric rest))
digit_begun byte rest is = grind (arith, nat_tests)

digit_also : (byte : ℕ) → (48 ≤ byte) × (byte ≤ 57) → is_ascii_alphanumeric byte ≡ true
digit_also byte is = grind (arith, nat_tests)

digits_pass : (digits : List ℕ) → AllDigits 10 digits → list_all is_ascii_alphanumeric digits ≡ true
digits_pass [] are = refl
digits_pass (digit ∷ digits) are = rw (digit_also digit (digit_inside digit are.0)) (digits_pass digits are.1)

-- decimal digits don't begin with `0x`
no_prefix : (digits : List ℕ) → AllDigits 10 digits → starts_with nat_eq digits (codes "0x") ≡ false
no_prefix digits are = grind (arith, nat_tests, digit_inside)

-- the number that digits write
digits_number : (digits : List ℕ) (number : ℕ) → 0 < length digits → AllDigits 10 digits → digits_value 10 digits ≡ number → number < 2 ^ 32 → literal_number digits ≡ Some number
digits_number digits number some are is small =
    rw (no_prefix digits are) (sym (as_number 10 digits (Some number) some ((are, omega (arith, is)), sym is)))

stops_both : (tail : List ℕ) → Stops continues_word tail → Stops is_ascii_alphanumeric tail
stops_both tail stops = grind (arith, nat_tests)

-- the number at the front of a line
digits_front : (digits tail : List ℕ) (number : ℕ) → 0 < length digits → AllDigits 10 digits → literal_number digits ≡ Some number → Stops continues_word tail → tokens_past (digits ++ tail) 0 ≡ token_before (Number number) (tokens_past tail 0)
digits_front [] tail number some are is stops = absurd (omega arith)
digits_front (byte ∷ bytes) tail number some are is stops =
    let digit = digit_inside byte are.0 in
    let run = run_length is_ascii_alphanumeric bytes tail (digits_pass bytes are.1) (stops_both tail stops) in
    let begin : begin_at byte (bytes ++ tail) ≡ Takes (Number number) (length bytes) =
    rw (digit_begun byte (bytes ++ tail) digit, run, take_at bytes tail (length bytes) refl, is) refl in
    from_byte byte (bytes ++ tail) ∙ rw (begin, drop_at bytes tail (length bytes) refl) refl

-- a number in decimal at the front of a line
pub number_front : (number : ℕ) (tail : List ℕ) → number < 2 ^ 32 → Stops continues_word tail → tokens_past (decimal number ++ tail) 0 ≡ token_before (Number number) (tokens_past tail 0)
number_front number tail small stops = grind (arith, nat_tests, decimal_is_IsNumeral, digits_front, digits_number)

-- the digits of a number are letters or digits
pub number_pass : (number : ℕ) → number < 2 ^ 32 → list_all is_ascii_alphanumeric (decimal number) ≡ true
number_pass number small = digits_pass (decimal number) (decimal_is_IsNumeral number (omega arith)).0.1

-- a space at the front of a line
pub blank_front : (tail : List ℕ) → tokens_past (32 ∷ tail) 0 ≡ tokens_past tail 0
blank_front tail = from_byte 32 tail

-- the byte of a mark
abbrev pub IsMark : Token → ℕ → Type 0
IsMark Comma byte = byte ≡ 44
IsMark Open byte = byte ≡ 40
IsMark Close byte = byte ≡ 41
IsMark Colon byte = byte ≡ 58
IsMark Plus byte = byte ≡ 43
IsMark Minus byte = byte ≡ 45
IsMark _ byte = ⊥

-- a mark at the front of a line
pub mark_front : (mark : Token) (byte : ℕ) (tail : List ℕ) → IsMark mark byte → tokens_past (byte ∷ tail) 0 ≡ token_before mark (tokens_past tail 0)
mark_front mark byte tail is = grind (arith, from_byte byte tail, is)

-- a token that begins is such as a line can have
abbrev IsBegin : Begin → Type 0
IsBegin (Takes token more) = IsToken token
IsBegin _ = Unit {0}

mark_is : (byte : ℕ) → IsBegin (mark_begins byte)
mark_is byte = grind (arith, nat_tests)

number_small : (radix : ℕ) (digits : List ℕ) (number : ℕ) → radix_number radix digits ≡ Some number → number < 2 ^ 32
number_small radix digits number is = grind (arith, nat_tests)

run_small : (run : List ℕ) (number : ℕ) → literal_number run ≡ Some number → number < 2 ^ 32
run_small run number is = grind (arith, number_small 16 (drop 2 run) number, number_small 10 run number)

number_is : (more : ℕ) (number : Option ℕ) → ((n : ℕ) → number ≡ Some n → n < 2 ^ 32) → IsBegin (number_begins more number)
number_is more number small = grind (arith, small)

word_is : (more byte : ℕ) (bytes : List ℕ) → begins_word byte ≡ true → list_all continues_word bytes ≡ true → IsBegin (word_begins more (byte ∷ bytes))
word_is more byte bytes first others = grind (arith, nat_tests)

begin_is : (byte : ℕ) (rest : List ℕ) → IsBegin (begin_at byte rest)
begin_is byte rest =
    let number = run_small (byte ∷ take_while is_ascii_alphanumeric rest) in
    let word = word_is (prefix_len continues_word rest) byte (take_while continues_word rest) in
    grind (arith, nat_tests, number, word, taken_pass continues_word rest, number_is, mark_is byte)

then_found : (begin : Begin) (others : Result (List Token) ℕ) (found : List Token) → IsBegin begin → ((more : List Token) → others ≡ Ok more → AllByRecursion IsToken more) → then_tokens begin others ≡ Ok found → AllByRecursion IsToken found
then_found begin others found is on e = grind (arith, nat_tests)

found_past : (bytes : List ℕ) (passed : ℕ) (found : List Token) → tokens_past bytes passed ≡ Ok found → AllByRecursion IsToken found
unfolding tokens_past
found_past [] passed found e = let same : [] ≡ found = cc e in subst (AllByRecursion IsToken) same tt
found_past (byte ∷ rest) (suc passed) found e = found_past rest passed found e
found_past (byte ∷ rest) zero found e =
    then_found (begin_at byte rest) (tokens_past rest (more_of (begin_at byte rest))) found (begin_is byte rest) (λ more is. found_past rest (more_of (begin_at byte rest)) more is) e

-- the tokens of a line
pub found_tokens : (line : List ℕ) (found : List Token) → tokens line ≡ Ok found → AllByRecursion IsToken found
found_tokens line found e = found_past line 0 found e
