-- Words with a space between each two: where the first ends.
use Rattle.report_text.proofs.Common.{◌≡◌, ℕ, ◌+◌, ◌==◌, nat_lt, not, true, List, [], ◌∷◌, ◌++◌, length, take, drop, position, Some, None, refl, ap, append_assoc, append-nil, length-append, arith, join_with_byte, prefix_len, lt-ltb, nat_tests, drop_at, take_at, each_also, run_length, IsOneWord, is_space}

inside_space : (byte : ℕ) → nat_lt 32 byte ≡ true → not (byte == 32) ≡ true
inside_space byte inside = grind (arith, nat_tests)

-- how many bytes stand before the first space
length_of_word : (word : List ℕ) → IsOneWord word → prefix_len (λ byte. not (byte == 32)) word ≡ length word
length_of_word word one =
    let whole = run_length (λ byte. not (byte == 32)) word [] (each_also (nat_lt 32) (λ byte. not (byte == 32)) word inside_space one) tt in
    simp append-nil at whole

length_before : (word tail : List ℕ) → IsOneWord word → prefix_len (λ byte. not (byte == 32)) (word ++ 32 ∷ tail) ≡ length word
length_before word tail one = run_length (λ byte. not (byte == 32)) word (32 ∷ tail) (each_also (nat_lt 32) (λ byte. not (byte == 32)) word inside_space one) refl

-- the last word has no space behind it
place_last : (word : List ℕ) → IsOneWord word → position is_space word ≡ None
place_last word one = rw (length_of_word word one) (grind (arith, nat_tests))

-- the space behind a word
place_next : (word tail : List ℕ) → IsOneWord word → position is_space (word ++ 32 ∷ tail) ≡ Some (length word)
place_next word tail one =
    rw (length_before word tail one, lt-ltb (length word) (length (word ++ 32 ∷ tail)) (simp length-append (omega arith))) refl

-- where there is a space, the first word stands before it, and the others behind it
pub cut_at : (text : List ℕ) (at : ℕ) (word : List ℕ) (words : List (List ℕ)) → position is_space text ≡ Some at → IsOneWord word
    → text ≡ join_with_byte 32 (word ∷ words) → (take at text ≡ word) × (drop (at + 1) text ≡ join_with_byte 32 words)
cut_at text at word [] place one is = absurd (cc (place_last word one, ap (λ t. position is_space t) is, place))
cut_at text at word (next ∷ words) place one is =
    let here : at ≡ length word = cc (place_next word (join_with_byte 32 (next ∷ words)) one, ap (λ t. position is_space t) is, place) in
    rw (is, here) (
      take_at word (32 ∷ join_with_byte 32 (next ∷ words)) (length word) refl,
      let longer = drop_at (word ++ 32 ∷ []) (join_with_byte 32 (next ∷ words)) (length word + 1) (simp length-append (omega arith)) in
          simp append_assoc at longer,
    )

-- where there is none, all is one word
pub uncut : (text word : List ℕ) (words : List (List ℕ)) → position is_space text ≡ None → IsOneWord word
    → text ≡ join_with_byte 32 (word ∷ words) → (text ≡ word) × ([] ≡ join_with_byte 32 words)
uncut text word [] place one is = (is, refl)
uncut text word (next ∷ words) place one is =
    absurd (cc (place_next word (join_with_byte 32 (next ∷ words)) one, ap (λ t. position is_space t) is, place))
