-- The first line of a bundle, and that it has one splitting.
use Rattle.serial_audit.proofs.Common.{◌≡◌, ℕ, List, ◌∷◌, ◌++◌, codes, decimal, inl, inr, append_assoc, arith, HasHead, HasOneSplitting, IsBundle, IsWrongAt, Sizes, head_text, nat_tests, ◌+◌, ◌≤◌, [], length, take, drop, position, Some, None, length-append, AllByRecursion, join_with_byte, length-drop, length-take, take_at, take-append-drop, feed_of_words, AreAllowed, head_words}
use Rattle.text_line.proofs.Words.{same_number}
use Rattle.serial_audit.specs.declared.bundle.Bundle.{Bundle}
use Rattle.report_text.specs.Words.{IsOneWord, is_line_feed}
use Rattle.report_text.proofs.PartLemmas.{number_word}

-- the first line without its line feed
abbrev pub head_inner : Sizes → List ℕ
head_inner sizes = join_with_byte 32 (head_words sizes)

words_are : (sizes : Sizes) → AreAllowed sizes → AllByRecursion IsOneWord (head_words sizes)
words_are sizes allowed = grind (arith, nat_tests, number_word)

-- where a first line ends
pub head_feed : (bytes rest : List ℕ) (sizes : Sizes) → HasHead bytes sizes rest → position is_line_feed bytes ≡ Some (length (head_inner sizes))
head_feed bytes rest sizes has = rw has.1 (feed_of_words (head_words sizes) rest (words_are sizes has.0))

-- bytes without a line feed have none
pub no_head : (bytes rest : List ℕ) (sizes : Sizes) → position is_line_feed bytes ≡ None → HasHead bytes sizes rest → ⊥
no_head bytes rest sizes none has = absurd (cc (head_feed bytes rest sizes has, none))

up_to_feed : (inner rest : List ℕ) → (take (length inner) ((inner ++ 10 ∷ []) ++ rest) ≡ inner) × (take (length inner + 1) ((inner ++ 10 ∷ []) ++ rest) ≡ inner ++ 10 ∷ [])
up_to_feed inner rest = grind (arith, nat_tests, append_assoc, take_at, length-append)

-- what stands before the first line feed, and up to it
pub head_before : (bytes rest : List ℕ) (sizes : Sizes) (at : ℕ) → position is_line_feed bytes ≡ Some at → HasHead bytes sizes rest
    → (take at bytes ≡ head_inner sizes) × (take (at + 1) bytes ≡ head_text sizes)
head_before bytes rest sizes at place has = grind (arith, nat_tests, head_feed bytes rest sizes has, up_to_feed (head_inner sizes) rest)

-- a first line is as long as it is, and so is what stands behind it
pub head_length : (bytes text : List ℕ) (n : ℕ) → n ≤ length bytes → take n bytes ≡ text
    → (bytes ≡ text ++ drop n bytes) × (length text ≡ n) × (length (drop n bytes) + n ≡ length bytes)
head_length bytes text n within is = grind (arith, nat_tests, take-append-drop, length-take, length-drop)

-- the first line, as it is written part by part
pub head_written : (sizes : Sizes)
    → ((((codes "audit" ++ 32 ∷ decimal sizes.job) ++ 32 ∷ decimal sizes.report) ++ 32 ∷ decimal sizes.opening) ++ 32 ∷ decimal sizes.closing) ++ 10 ∷ []
    ≡ head_text sizes
head_written sizes = simp append_assoc

-- the first line and what stands behind it, number by number
abbrev parts : Sizes → List ℕ → List ℕ
parts sizes rest = decimal sizes.job ++ 32 ∷ (decimal sizes.report ++ 32 ∷ (decimal sizes.opening ++ 32 ∷ (decimal sizes.closing ++ 10 ∷ rest)))

by_parts : (sizes : Sizes) (rest : List ℕ) → head_text sizes ++ rest ≡ codes "audit " ++ parts sizes rest
by_parts sizes rest = simp append_assoc

behind_name : (one two : List ℕ) → codes "audit " ++ one ≡ codes "audit " ++ two → one ≡ two
behind_name one two is = cc

-- two first lines in front of the same bytes are one
one_head : (bytes : List ℕ) (a b : Sizes) (x y : List ℕ) → HasHead bytes a x → HasHead bytes b y → (a ≡ b) × (x ≡ y)
one_head bytes a b x y first second = grind (arith, nat_tests, behind_name, by_parts, same_number)

one_splitting : (bytes : List ℕ) (first second : Bundle) → IsBundle bytes first → IsBundle bytes second → first ≡ second
one_splitting bytes first second one two = grind (arith, nat_tests, one_head bytes one.sizes two.sizes one.rest two.rest one.head two.head)

none_wrong : (bytes : List ℕ) (bundle : Bundle) (part : ℕ) → IsBundle bytes bundle → IsWrongAt bytes part → ⊥
none_wrong bytes bundle part is (inl (at, none)) = none is.sizes is.rest is.head
none_wrong bytes bundle part is (inr (at, (sizes, rest, head, differs))) = grind (arith, nat_tests, one_head bytes is.sizes sizes is.rest rest is.head head)

pub has_one_splitting : HasOneSplitting
has_one_splitting = record { one = one_splitting; whole = none_wrong }
