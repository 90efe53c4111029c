-- The parts of a line: which of them are words, and what they are read as.
use Rattle.report_text.proofs.Common.{◌≡◌, ◌≢◌, ℕ, ◌^◌, ◌<◌, ◌==◌, ◌||◌, nat_lt, true, List, [], ◌∷◌, ◌++◌, length, map, codes, decimal, Ok, Err, MatchResult, refl, sym, ◌∙◌, ap, append_assoc, append-nil, arith, All, AllByRecursion, join_with_byte, nat_tests, recursion_from_All, each_also, big_bytes, big_number, encode_lower, decode_of, decode_sized, IsBytes, printed, IsOneWord, each_byte}
use Rattle.std.specs.Char.{digit_value, is_ascii_alphabetic}
use Rattle.std.specs.Str.Parse.{AllDigits}
use Rattle.std.proofs.lemmas.Fmt.{decimal_is_IsNumeral, decimal_nonempty}
use Rattle.asm_parse.specs.Token.{continues_word}
use Rattle.hex.specs.declared.error.FromHexError.{FromHexError}
use Rattle.hex.proofs.HexLemmas.{decode_of-encode_lower, decode_of-odd, decode_sized-encode_lower}
use Rattle.job_text.specs.Ready.{IsName}

digit_inside : (digit : ℕ) → digit_value digit < 10 → nat_lt 32 digit ≡ true
digit_inside digit small = grind (arith, nat_tests)

digits_inside : (digits : List ℕ) → AllDigits 10 digits → IsOneWord digits
digits_inside [] are = refl
digits_inside (digit ∷ digits) are = rw (digit_inside digit are.0) (digits_inside digits are.1)

-- a number in decimal is a word
pub number_word : (n : ℕ) → n < 2 ^ 64 → IsOneWord (decimal n)
number_word n small = digits_inside (decimal n) (decimal_is_IsNumeral n small).0.1

continues_inside : (byte : ℕ) → continues_word byte ≡ true → nat_lt 32 byte ≡ true
continues_inside byte continues = grind (arith, nat_tests)

begins_inside : (byte : ℕ) → (is_ascii_alphabetic byte || byte == 95) ≡ true → nat_lt 32 byte ≡ true
begins_inside byte begins = grind (arith, nat_tests)

-- and so is a name
pub name_word : (name : List ℕ) → IsName name → IsOneWord name
name_word [] is = absurd is
name_word (byte ∷ bytes) is = rw (begins_inside byte is.0) (each_also continues_word (nat_lt 32) bytes continues_inside is.1)

-- so many numbers are listed, and these are left
abbrev pub Left : List ℕ → List ℕ → List ℕ → Type 0
Left ns numbers left =
    (todo : List ℕ) × (ns ≡ numbers ++ todo) × AllByRecursion (λ n. n < 2 ^ 32) todo × (left ≡ join_with_byte 32 (map decimal todo))

-- one number more is listed
pub one_more : (ns numbers left rest : List ℕ) (number : ℕ) → left ≢ []
    → ((n : ℕ) (words : List (List ℕ)) → n < 2 ^ 32 → left ≡ join_with_byte 32 (decimal n ∷ words) → (number ≡ n) × (rest ≡ join_with_byte 32 words))
    → Left ns numbers left → Left ns (numbers ++ number ∷ []) rest
one_more ns numbers left rest number some given (todo, is, small, text) = by_todo todo is small text
  where
    by_todo : (todo : List ℕ) → ns ≡ numbers ++ todo → AllByRecursion (λ n. n < 2 ^ 32) todo → left ≡ join_with_byte 32 (map decimal todo)
        → Left ns (numbers ++ number ∷ []) rest
    by_todo [] is small text = absurd (some text)
    by_todo (n ∷ todo) is small text =
        let first = given n (map decimal todo) small.0 text in
        (todo, is ∙ rw first.0 (sym (append_assoc numbers (n ∷ []) todo)), small.1, first.1)

joined_some : (word : List ℕ) (words : List (List ℕ)) → 0 < length word → join_with_byte 32 (word ∷ words) ≢ []
joined_some [] words some is = absurd (omega arith)
joined_some (byte ∷ word) [] some is = cc
joined_some (byte ∷ word) (next ∷ words) some is = cc

-- where nothing is left, all are listed
pub all_listed : (ns numbers : List ℕ) → Left ns numbers [] → numbers ≡ ns
all_listed ns numbers (todo, is, small, text) = by_todo todo is small text
  where
    by_todo : (todo : List ℕ) → ns ≡ numbers ++ todo → AllByRecursion (λ n. n < 2 ^ 32) todo → [] ≡ join_with_byte 32 (map decimal todo) → numbers ≡ ns
    by_todo [] is small text = sym (is ∙ append-nil numbers)
    by_todo (n ∷ todo) is small text =
        absurd (joined_some (decimal n) (map decimal todo) (decimal_nonempty n (omega (arith, small.0))) (sym text))

are_bytes : (bytes : List ℕ) → All (λ byte. byte < 256) bytes → IsBytes bytes
are_bytes bytes all = each_byte bytes (recursion_from_All (λ byte. byte < 256) bytes all)

-- the printed bytes that a word is decoded to
pub decoded : (word bytes out : List ℕ) → All (λ byte. byte < 256) out → decode_of word ≡ Ok bytes → word ≡ printed out → bytes ≡ out
decoded word bytes [] all is text = absurd (cc (decode_of-odd (codes "-") refl, ap decode_of text))
decoded word bytes (byte ∷ out) all is text =
    let whole = decode_of-encode_lower (byte ∷ out) (are_bytes (byte ∷ out) all) in
    cc (ap decode_of text)

-- what can't be decoded is no printed byte
pub undecoded : (word out : List ℕ) (fault : FromHexError) → All (λ byte. byte < 256) out → decode_of word ≡ Err fault → word ≡ printed out → [] ≡ out
undecoded word [] fault all is text = refl
undecoded word (byte ∷ out) fault all is text =
    let whole = decode_of-encode_lower (byte ∷ out) (are_bytes (byte ∷ out) all) in
    absurd (cc (ap decode_of text))

-- the address that a word is decoded to
pub address_is : (word out : List ℕ) (n : ℕ) (P : List ℕ → Type 0) (Q : FromHexError → Type 0) → n < 2 ^ 32 → word ≡ encode_lower (big_bytes 4 n)
    → MatchResult (decode_sized word 4) (λ bytes. P bytes × (out ≡ bytes)) Q → big_number 4 out ≡ n
address_is word out n P Q small text told =
    let bytes = each_byte (big_bytes 4 n) (omega arith, (omega arith, (omega arith, (omega arith, tt)))) in
    let is = decode_sized-encode_lower (big_bytes 4 n) 4 refl bytes in
    let given = rw (text, is) at told in
    rw given.1 (omega arith)
