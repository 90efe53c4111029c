-- The fields of a header looked at one after another.
use Rattle.store_format.proofs.Common.{◌≡◌, ℕ, zero, suc, ◌+◌, ◌*◌, ◌-◌, ◌<◌, ◌≤◌, true, false, List, [], ◌∷◌, ◌++◌, length, refl, sym, ◌∙◌, arith, slice_index, Option, None, min, is_some, option_or, nat_tests, Field, number_at, within, segments_at, segment_fields, zeros, last_zeros, first_fault}

-- one field in front
pub first_fault-cons : (bytes : ℕ) (field : Field) (fields : List Field) → first_fault bytes (field ∷ fields) ≡ option_or (first_fault bytes (field ∷ [])) (first_fault bytes fields)
first_fault-cons bytes field fields = grind (arith, nat_tests)

pub or_first : (a b : Option ℕ) → is_some a ≡ true → option_or a b ≡ a
or_first a b some = grind (arith, nat_tests)

pub or_second : (a b : Option ℕ) → is_some a ≡ false → option_or a b ≡ b
or_second a b none = grind (arith, nat_tests)

pub option_or-assoc : {T : Type 0} (a b c : Option T) → option_or a (option_or b c) ≡ option_or (option_or a b) c
option_or-assoc a b c = grind (arith, nat_tests)

pub first_fault-append : (bytes : ℕ) (front back : List Field) → first_fault bytes (front ++ back) ≡ option_or (first_fault bytes front) (first_fault bytes back)
first_fault-append bytes [] back = refl
first_fault-append bytes (field ∷ front) back = grind (arith, nat_tests, first_fault-append bytes front back, first_fault-cons, option_or-assoc)

-- what a number's field without a fault says
pub right_number : (length at bytes number least most : ℕ) → is_some (first_fault length (within at bytes number least most ∷ [])) ≡ false → (at + bytes ≤ length) × (least ≤ number) × (number ≤ most)
right_number length at bytes number least most none = grind (arith, nat_tests)

-- the entries from one on
abbrev pub segments_left : List ℕ → (count i : ℕ) → List (ℕ × ℕ)
segments_left head count i = segments_at head (16 + 4 * i) (count - i)

module _ (head : List ℕ) (length count i least room identifier pages at : ℕ) (more : i < count) (place : at ≡ 16 + 4 * i) (first : identifier ≡ number_at head at 2) (second : pages ≡ number_at head (at + 2) 2) where
  begins : segments_left head count i ≡ (identifier, pages) ∷ segments_left head count (i + 1)
  begins = grind (arith, nat_tests, head)

  abbrev later : List Field
  later = segment_fields (16 + 4 * (i + 1)) (identifier + 1) (room - pages) (segments_left head count (i + 1))

  listed : segment_fields (16 + 4 * i) least room (segments_left head count i) ≡ within at 2 identifier least 3839 ∷ within (at + 2) 2 pages 1 (min room 128) ∷ later
  listed = grind (arith, nat_tests, head, begins)

  whole : first_fault length (segment_fields (16 + 4 * i) least room (segments_left head count i)) ≡ option_or (first_fault length (within at 2 identifier least 3839 ∷ [])) (option_or (first_fault length (within (at + 2) 2 pages 1 (min room 128) ∷ [])) (first_fault length later))
  whole = grind (arith, nat_tests, listed, first_fault-cons)

  -- the first field of an entry is wrong, or the second, or neither
  pub wrong_identifier : is_some (first_fault length (within at 2 identifier least 3839 ∷ [])) ≡ true → first_fault length (within at 2 identifier least 3839 ∷ []) ≡ first_fault length (segment_fields (16 + 4 * i) least room (segments_left head count i))
  wrong_identifier wrong = sym (whole ∙ or_first _ _ wrong)

  pub wrong_pages : is_some (first_fault length (within at 2 identifier least 3839 ∷ [])) ≡ false → is_some (first_fault length (within (at + 2) 2 pages 1 (min room 128) ∷ [])) ≡ true → first_fault length (within (at + 2) 2 pages 1 (min room 128) ∷ []) ≡ first_fault length (segment_fields (16 + 4 * i) least room (segments_left head count i))
  wrong_pages right wrong = sym (whole ∙ or_second _ _ right ∙ or_first _ _ wrong)

  pub right_segment : is_some (first_fault length (within at 2 identifier least 3839 ∷ [])) ≡ false → is_some (first_fault length (within (at + 2) 2 pages 1 (min room 128) ∷ [])) ≡ false → first_fault length later ≡ first_fault length (segment_fields (16 + 4 * i) least room (segments_left head count i))
  right_segment right also = sym (whole ∙ or_second _ _ right ∙ or_second _ _ also)

-- one zero more
pub zeros_more : (head : List ℕ) (length at to : ℕ) → at < to → first_fault length (zeros head at (to - at)) ≡ option_or (first_fault length (within at 1 (slice_index head at) 0 0 ∷ [])) (first_fault length (zeros head (at + 1) (to - (at + 1))))
zeros_more head length at to more = grind (arith, nat_tests, head, first_fault-cons)

-- a header's four first fields, its segments and its zeros
pub six_faults : (length : ℕ) (a b c d : Field) (listed zeros : List Field)
    → option_or (option_or (option_or (option_or (option_or (first_fault length (a ∷ [])) (first_fault length (b ∷ []))) (first_fault length (c ∷ []))) (first_fault length (d ∷ []))) (first_fault length listed)) (first_fault length zeros)
    ≡ first_fault length (a ∷ b ∷ c ∷ d ∷ (listed ++ zeros))
six_faults length a b c d listed zeros = grind (arith, nat_tests, first_fault-append, listed)

pub or_is : {result first second was is : Option ℕ} → result ≡ option_or first second → first ≡ was → second ≡ is → result ≡ option_or was is
or_is result first second = cc

or_none : (a b : Option ℕ) → option_or a b ≡ None → (a ≡ None) × (b ≡ None)
or_none a b none = grind (arith, nat_tests)

-- where a list of fields has no fault, neither has its front nor its back
pub none-append : (length : ℕ) (front back : List Field) → first_fault length (front ++ back) ≡ None → (first_fault length front ≡ None) × (first_fault length back ≡ None)
none-append length front back none = or_none (first_fault length front) (first_fault length back) (sym (first_fault-append length front back) ∙ none)

pub length-segments_at : (image : List ℕ) (at count : ℕ) → length (segments_at image at count) ≡ count
length-segments_at image at zero = refl
length-segments_at image at (suc count) = omega (arith, length-segments_at image (at + 4) count)

-- one entry more at the end
pub segments_at-more : (image : List ℕ) (at count : ℕ) → segments_at image at (count + 1) ≡ segments_at image at count ++ (number_at image (at + 4 * count) 2, number_at image (at + 4 * count + 2) 2) ∷ []
segments_at-more image at zero = grind (arith, nat_tests)
segments_at-more image at (suc count) = grind (arith, nat_tests, segments_at-more image (at + 4) count)

-- the fifty zeros that a header of version 2 ends with
pub last_zeros_are : (image : List ℕ) → last_zeros image ≡ zeros image 78 50
unfolding last_zeros
last_zeros_are image = refl
