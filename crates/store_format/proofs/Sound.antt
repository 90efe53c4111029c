-- What a header without a fault says.
use Rattle.store_format.proofs.Common.{◌≡◌, ℕ, zero, suc, ◌+◌, ◌*◌, ◌-◌, ◌^◌, ◌<◌, ◌≤◌, slice_index, true, List, [], ◌∷◌, ◌++◌, length, take, Bool, codes, ◌∙◌, ap, arith, inl, inr, Option, None, Some, All, min, nat_lt, nat_eq, not, is_some, if◌then◌else◌, starts_with, FlatStore, cases_eq, nat_tests, PageSize, Two, Four, AreSegmentsLegal, AreFlags, flag_count, Header, number_at, within, name_field, segments_of, segment_fields, zeros, last_zeros, spare_fields, page_size_of, fields, first_fault, header_of, total, BankContent, Stands, NotAStore, stands, standing_if, standing_by, All-head, All-tail, get_or-drop, length-drop, length-take, take-append-drop, big_number, pow_pos}
use Rattle.std.proofs.lemmas.Slice.Eq.{starts_is}
use Rattle.store_format.proofs.Checks.{none-append, right_number, length-segments_at}
use Rattle.store_format.proofs.Segments.{Stays, right_within, segments_legal, stays_all}

pub record IsSound (head : List ℕ) : Type 0 where
  pub some : 1 ≤ number_at head 10 2
  pub few : number_at head 10 2 ≤ 15
  pub least_bank : 4096 ≤ number_at head 12 4
  pub most_bank : number_at head 12 4 ≤ 131072
  pub legal : AreSegmentsLegal (segments_of head)
  pub flags : AreFlags (page_size_of (number_at head 8 2)) (segments_of head) (number_at head 76 2)

-- a byte among zeros
zero_in : (head : List ℕ) (at bytes i : ℕ) → All Stays (zeros head at bytes) → at ≤ i → i < at + bytes → slice_index head i ≡ 0
zero_in head at zero i stay low high = absurd (omega (arith, low, high))
zero_in head at (suc bytes) i stay low high = elim (cases_eq i at) [
  | inl same ↦
      let none = right_within (slice_index head at) 0 0 (All-head Stays (within at 1 (slice_index head at) 0 0) (zeros head (at + 1) bytes) stay) in
      ap (slice_index head) same ∙ omega (arith, none.1)
  | inr other ↦ zero_in head (at + 1) bytes i (All-tail Stays (within at 1 (slice_index head at) 0 0) (zeros head (at + 1) bytes) stay) (omega (arith, low, other)) (omega (arith, high))
]

-- flags without a fault are those of the segments
flags_right : (page : PageSize) (head : List ℕ) (bytes count : ℕ) → count ≤ 15 → first_fault bytes (spare_fields page head count) ≡ None → number_at head 76 2 < 2 ^ flag_count page count
flags_right Two head bytes count few none =
    let stay = stays_all bytes (zeros head (16 + 4 * count) (112 - 4 * count)) none in
    let high = zero_in head (16 + 4 * count) (112 - 4 * count) 76 stay (omega (arith, few)) (omega (arith, few)) in
    let low = zero_in head (16 + 4 * count) (112 - 4 * count) 77 stay (omega (arith, few)) (omega (arith, few)) in
    omega (arith, high, low, get_or-drop 76 head 0 0, get_or-drop 76 head 1 0)
flags_right Four head bytes count few none =
    let flags = within 76 2 (number_at head 76 2) 0 (2 ^ count - 1) in
    let behind = none-append bytes (zeros head (16 + 4 * count) (60 - 4 * count)) (flags ∷ last_zeros head) none in
    let flagged = none-append bytes (flags ∷ []) (last_zeros head) behind.1 in
    let most = right_number bytes 76 2 (number_at head 76 2) 0 (2 ^ count - 1) (ap (λ (fault : Option ℕ). is_some fault) flagged.0) in
    omega (arith, most.2, pow_pos count)

pub sound_header : (head : List ℕ) (bytes : ℕ) → first_fault bytes (fields head) ≡ None → IsSound head
sound_header head bytes none =
    let listed = segment_fields 16 1 1024 (segments_of head) in
    let page = page_size_of (number_at head 8 2) in
    let spare = spare_fields page head (length (segments_of head)) in
    let version = within 8 2 (number_at head 8 2) 1 2 in
    let count = within 10 2 (number_at head 10 2) 1 15 in
    let bank = within 12 4 (number_at head 12 4) 4096 131072 in
    let behind_name = none-append bytes (name_field head ∷ version ∷ []) (count ∷ bank ∷ (listed ++ spare)) none in
    let counts = none-append bytes (count ∷ []) (bank ∷ (listed ++ spare)) behind_name.1 in
    let banks = none-append bytes (bank ∷ []) (listed ++ spare) counts.1 in
    let segments = none-append bytes listed spare banks.1 in
    let many = right_number bytes 10 2 (number_at head 10 2) 1 15 (ap (λ (fault : Option ℕ). is_some fault) counts.0) in
    let area = right_number bytes 12 4 (number_at head 12 4) 4096 131072 (ap (λ (fault : Option ℕ). is_some fault) banks.0) in
    let number : length (segments_of head) ≡ number_at head 10 2 = length-segments_at head 16 (min (number_at head 10 2) 15) ∙ omega (arith, many.2) in
    record {
      some = many.1;
      few = many.2;
      least_bank = area.1;
      most_bank = area.2;
      legal = segments_legal (segments_of head) (omega (arith, number, many.1)) (omega (arith, number, many.2)) (stays_all bytes listed segments.0);
      flags = flags_right page head bytes (length (segments_of head)) (omega (arith, number, many.2)) segments.1;
    }

-- an image whose header has a fault, or that isn't as long as its header says, is no store
pub faulty_header : (image : List ℕ) (offset : ℕ) → first_fault (length image) (fields (take 128 image)) ≡ Some offset → stands image ≡ NotAStore offset
unfolding stands
faulty_header image offset fault = ap (λ (those : Option ℕ). standing_if image those (header_of (take 128 image))) fault

pub faulty_length : (image : List ℕ) (header : Header) → first_fault (length image) (fields (take 128 image)) ≡ None → header_of (take 128 image) ≡ header → (length image ≡ total header → ⊥)
    → stands image ≡ NotAStore (min (length image) (total header))
unfolding stands
faulty_length image header none said other = grind (arith, nat_tests, min)

-- what stands has a header without a fault, its directory, and a number of 64 bits
pub stood_header : (image : List ℕ) (number : ℕ) (store : FlatStore) → stands image ≡ Stands number store
    → (first_fault (length image) (fields (take 128 image)) ≡ None) × (store.directory ≡ (header_of (take 128 image)).directory) × (number < 2 ^ 64)
unfolding stands
stood_header image number store is = by_fault (first_fault (length image) (fields (take 128 image))) is
  where
    header : Header
    header = header_of (take 128 image)

    by_bank : (base : ℕ) (bank : BankContent) → standing_by image header base bank ≡ Stands number store → (store.directory ≡ header.directory) × (number < 2 ^ 64)
    by_bank base bank is = grind (arith, nat_tests)

    by_length : (short long : Bool) (less more base : ℕ) (bank : BankContent) → (if short then NotAStore less else if long then NotAStore more else standing_by image header base bank) ≡ Stands number store → (store.directory ≡ header.directory) × (number < 2 ^ 64)
    by_length short long less more base bank is = grind (arith, nat_tests, by_bank)

    by_fault : (fault : Option ℕ) → standing_if image fault header ≡ Stands number store → (fault ≡ None) × (store.directory ≡ header.directory) × (number < 2 ^ 64)
    by_fault fault is = grind (arith, nat_tests, by_length)

-- a header without a fault has the name, and its version is 1 or 2
pub named_header : (image : List ℕ) → first_fault (length image) (fields (take 128 image)) ≡ None
    → (starts_with nat_eq (take 128 image) (codes "801STORE") ≡ true) × (10 ≤ length image) × (1 ≤ number_at (take 128 image) 8 2) × (number_at (take 128 image) 8 2 ≤ 2)
named_header image none =
    let head = take 128 image in
    let version = within 8 2 (number_at head 8 2) 1 2 in
    let others = within 10 2 (number_at head 10 2) 1 15 ∷ within 12 4 (number_at head 12 4) 4096 131072 ∷ (segment_fields 16 1 1024 (segments_of head) ++ spare_fields (page_size_of (number_at head 8 2)) head (length (segments_of head))) in
    let name = none-append (length image) (name_field head ∷ []) (version ∷ others) none in
    let versions = none-append (length image) (version ∷ []) others name.1 in
    let right = right_number (length image) 8 2 (number_at head 8 2) 1 2 (ap (λ (fault : Option ℕ). is_some fault) versions.0) in
    (named (nat_lt (length image) 8) (starts_with nat_eq head (codes "801STORE")) name.0, omega (arith, right.0), right.1, right.2)
  where
    named : (short right : Bool) → (if short then Some (length image) else if not right then Some 0 else None) ≡ None → right ≡ true
    named short right none = grind (arith, nat_tests)

-- a number in two bytes that is 2
two_bytes : (bytes : List ℕ) → 2 ≤ length bytes → big_number 2 bytes ≡ 2 → (rest : List ℕ) × (bytes ≡ 0 ∷ 2 ∷ rest)
two_bytes [] long is = absurd (omega arith)
two_bytes (high ∷ []) long is = absurd (omega arith)
two_bytes (high ∷ low ∷ rest) long is =
    let first : high ≡ 0 = omega (arith, is) in
    let second : low ≡ 2 = omega (arith, is) in
    (rest, ap (λ (n : ℕ). n ∷ low ∷ rest) first ∙ ap (λ (n : ℕ). 0 ∷ n ∷ rest) second)

-- a name and a version 2 in front
pub begins_two : (text : List ℕ) → 10 ≤ length text → starts_with nat_eq (take 128 text) (codes "801STORE") ≡ true → number_at (take 128 text) 8 2 ≡ 2 → starts_with nat_eq text (codes "801STORE" ++ 0 ∷ 2 ∷ []) ≡ true
begins_two text long name two = grind (arith, nat_tests, codes, starts_is, two_bytes, length-drop, length-take, take-append-drop)
