-- The parts of a line of a ship text: where each ends, and that none holds a line feed.
use Rattle.standby.proofs.Common.{All, slice_index, AllByRecursion, prefix_len, lt-ltb, nat_tests, drop_at, take_at, All-get_or, recursion_from_All, AllPass-from_list_all, sum_by-append, decode_of-encode_lower, IsWord, number_word, word_cut, feeds, closing_line, head_line, line_line, record_line, each_byte, ◌≡◌, ℕ, ◌+◌, ◌/◌, ◌%◌, ◌^◌, ◌<◌, ◌≤◌, ◌==◌, nat_lt, not, true, cond, List, [], ◌∷◌, ◌++◌, length, codes, decimal, position, Some, None, Ok, take, drop, refl, ◌∙◌, ap, append_assoc, length-append, arith, encode_lower, lower_digits, decode_of, ltb-true, eq-eqb, ne_eqb}
use Rattle.hex.specs.Hex.{encode_with}
use Rattle.std.proofs.lemmas.List.Quantifiers.{position-Some}
use Rattle.standby.proofs.ShipLemmas.{split_at}

hex_digit : (k : ℕ) → k < 16 → 32 < slice_index lower_digits k
hex_digit k small = ltb-true 32 (slice_index lower_digits k) (All-get_or (λ byte. nat_lt 32 byte ≡ true) lower_digits k 0 small (AllPass-from_list_all (nat_lt 32) lower_digits refl))

hex_word_by : (bytes : List ℕ) → AllByRecursion (λ byte. byte < 256) bytes → IsWord (encode_lower bytes)
unfolding encode_with
hex_word_by [] all = tt
hex_word_by (byte ∷ bytes) all = (hex_digit (byte / 16) (omega (arith, all.0)), (hex_digit (byte % 16) (omega arith), hex_word_by bytes all.1))

pub hex_word : (bytes : List ℕ) → All (λ byte. byte < 256) bytes → IsWord (encode_lower bytes)
hex_word bytes all = hex_word_by bytes (recursion_from_All (λ byte. byte < 256) bytes all)

pub decodes : (bytes : List ℕ) → All (λ byte. byte < 256) bytes → decode_of (encode_lower bytes) ≡ Ok bytes
decodes bytes all = decode_of-encode_lower bytes (each_byte bytes (recursion_from_All (λ byte. byte < 256) bytes all))

pub same_hex : (a b x y : List ℕ) → All (λ byte. byte < 256) a → All (λ byte. byte < 256) b → encode_lower a ++ 10 ∷ x ≡ encode_lower b ++ 10 ∷ y → (a ≡ b) × (x ≡ y)
same_hex a b x y one two is = grind (arith, decodes a one, (word_cut 10 (encode_lower a) (encode_lower b) x y (omega arith) (hex_word a one) (hex_word b two) is).0, decodes b two, (word_cut 10 (encode_lower a) (encode_lower b) x y (omega arith) (hex_word a one) (hex_word b two) is).1)

-- the place of the byte behind a word
run : (stop : ℕ) (word tail : List ℕ) → stop ≤ 32 → IsWord word → prefix_len (λ byte. not (byte == stop)) (word ++ stop ∷ tail) ≡ length word
run stop [] tail small is = rw (eq-eqb stop stop refl) refl
run stop (byte ∷ word) tail small is = rw (ne_eqb byte stop (omega (arith, small, is.0)), run stop word tail small is.1) (omega arith)

pub place_is : (stop : ℕ) (word tail : List ℕ) → stop ≤ 32 → IsWord word → position (λ byte. byte == stop) (word ++ stop ∷ tail) ≡ Some (length word)
place_is stop word tail small is = grind (arith, run stop word tail small is, lt-ltb (length word) (length (word ++ stop ∷ tail)) (simp length-append (omega arith)))

-- no line ends in a word
pub word_plain : (word : List ℕ) → IsWord word → feeds word ≡ 0
word_plain [] is = refl
word_plain (byte ∷ word) is = rw (ne_eqb byte 10 (omega (arith, is.0))) (word_plain word is.1)

pub feeds_append : (a b : List ℕ) → feeds (a ++ b) ≡ feeds a + feeds b
feeds_append a b = sum_by-append (λ byte. cond (byte == 10) 1 0) a b

-- a line: bytes without a line feed, and one
pub record IsLine (line : List ℕ) : Type 0 where
  pub body : List ℕ
  pub is : line ≡ body ++ 10 ∷ []
  pub plain : feeds body ≡ 0

pub one_feed : (line : List ℕ) → IsLine line → feeds line ≡ 1
one_feed line is = ap feeds is.is ∙ feeds_append is.body (10 ∷ []) ∙ ap (λ (n : ℕ). n + 1) is.plain

both : (a b : List ℕ) → feeds a ≡ 0 → feeds b ≡ 0 → feeds (a ++ b) ≡ 0
both a b one two = omega (arith, feeds_append a b, one, two)

three : (a b c : List ℕ) → feeds a ≡ 0 → feeds b ≡ 0 → feeds c ≡ 0 → feeds ((a ++ b) ++ c) ≡ 0
three a b c one two more = omega (arith, feeds_append (a ++ b) c, feeds_append a b, one, two, more)

pub end_is_line : (n : ℕ) → n < 2 ^ 64 → IsLine (closing_line n)
end_is_line n small = record { body = codes "end " ++ decimal n; is = refl; plain = both (codes "end ") (decimal n) refl (word_plain (decimal n) (number_word n small)) }

pub record_is_line : (n count : ℕ) → n < 2 ^ 64 → count < 2 ^ 64 → IsLine (record_line n count)
record_is_line n count small few = record {
  body = ((codes "record " ++ decimal n) ++ codes " ") ++ decimal count;
  is = refl;
  plain = three (codes "record " ++ decimal n) (codes " ") (decimal count) (both (codes "record ") (decimal n) refl (word_plain (decimal n) (number_word n small))) refl (word_plain (decimal count) (number_word count few));
}

pub line_is_line : (n : ℕ) (bytes : List ℕ) → n < 2 ^ 64 → All (λ byte. byte < 256) bytes → IsLine (line_line n bytes)
line_is_line n bytes small all = record {
  body = ((codes "line " ++ decimal n) ++ codes " ") ++ encode_lower bytes;
  is = refl;
  plain = three (codes "line " ++ decimal n) (codes " ") (encode_lower bytes) (both (codes "line ") (decimal n) refl (word_plain (decimal n) (number_word n small))) refl (word_plain (encode_lower bytes) (hex_word bytes all));
}

pub head_is_line : (w l n : ℕ) → w < 2 ^ 64 → l < 2 ^ 64 → n < 2 ^ 64 → IsLine (head_line w l n)
head_is_line w l n one two small =
    let front = ((codes "ship " ++ decimal w) ++ codes " ") ++ decimal l in
    let first = three (codes "ship " ++ decimal w) (codes " ") (decimal l) (both (codes "ship ") (decimal w) refl (word_plain (decimal w) (number_word w one))) refl (word_plain (decimal l) (number_word l two)) in
    record { body = (front ++ codes " ") ++ decimal n; is = refl; plain = three front (codes " ") (decimal n) first refl (word_plain (decimal n) (number_word n small)) }

-- the parts of each, with what stands behind it
pub head_parts : (w l n : ℕ) (rest : List ℕ) → head_line w l n ++ rest ≡ codes "ship " ++ (decimal w ++ 32 ∷ (decimal l ++ 32 ∷ (decimal n ++ 10 ∷ rest)))
head_parts w l n rest = simp append_assoc refl

pub record_parts : (n count : ℕ) (rest : List ℕ) → record_line n count ++ rest ≡ codes "record " ++ (decimal n ++ 32 ∷ (decimal count ++ 10 ∷ rest))
record_parts n count rest = simp append_assoc refl

pub line_parts : (n : ℕ) (bytes rest : List ℕ) → line_line n bytes ++ rest ≡ codes "line " ++ (decimal n ++ 32 ∷ (encode_lower bytes ++ 10 ∷ rest))
line_parts n bytes rest = simp append_assoc refl

pub end_parts : (n : ℕ) (rest : List ℕ) → closing_line n ++ rest ≡ codes "end " ++ (decimal n ++ 10 ∷ rest)
end_parts n rest = simp append_assoc refl

pub line_front : (n : ℕ) (rest : List ℕ) → ((codes "line" ++ 32 ∷ decimal n) ++ 32 ∷ []) ++ rest ≡ codes "line " ++ (decimal n ++ 32 ∷ rest)
line_front n rest = simp append_assoc refl

-- where the byte stands, a word stands before it
pub cut_at : (stop at : ℕ) (text word rest : List ℕ) → stop ≤ 32 → IsWord word → position (λ byte. byte == stop) text ≡ Some at → text ≡ word ++ stop ∷ rest → (at ≡ length word) × (take at text ≡ word) × (drop (at + 1) text ≡ rest)
cut_at stop at text word rest small one place is =
    let here : at ≡ length word = cc (place_is stop word rest small one, ap (λ (t : List ℕ). position (λ byte. byte == stop) t) is, place) in (
      here,
      rw (is, here) (take_at word (stop ∷ rest) (length word) refl),
      rw (is, here) (let longer = drop_at (word ++ stop ∷ []) rest (length word + 1) (simp length-append (omega arith)) in simp append_assoc at longer),
    )

pub uncut : (stop : ℕ) (text word rest : List ℕ) → stop ≤ 32 → IsWord word → position (λ byte. byte == stop) text ≡ None → text ≡ word ++ stop ∷ rest → ⊥
uncut stop text word rest small one place is = cc (place_is stop word rest small one, ap (λ (t : List ℕ). position (λ byte. byte == stop) t) is, place)

same_byte : (byte stop : ℕ) → (byte == stop) ≡ true → byte ≡ stop
same_byte byte stop is = grind (arith, nat_tests)

-- a text by the place of a byte in it
pub parts_at : (stop at : ℕ) (text : List ℕ) → position (λ byte. byte == stop) text ≡ Some at → text ≡ take at text ++ stop ∷ drop (at + 1) text
parts_at stop at text place = grind (arith, position-Some (λ (byte : ℕ). byte == stop) text at 0 place, split_at text at 0, same_byte)
