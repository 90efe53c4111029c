-- A header that is cut, with zeros behind it.
use Rattle.store_format.proofs.Common.{◌≡◌, ℕ, zero, suc, ◌+◌, ◌*◌, ◌-◌, ◌^◌, ◌≤◌, List, [], ◌∷◌, ◌++◌, length, take, drop, refl, sym, ◌∙◌, ap, arith, slice_index, replicate, inl, inr, Option, min, unwrap_or, IsSome, IfSome, cases_lt, nat_tests, get_or-drop, get_or_append_left, get_or-append_right, get_or_past, take-append-le, take_all, drop-replicate, length-take, big_from, PageSize, Two, Four, Header, page_size_of, spare_fields, Field, number_at, within, name_field, segments_at, segments_of, segment_fields, zeros, fields, first_fault, header_of}
use Rattle.outside.specs.Bytes.{bytes_at}
use Rattle.store_format.proofs.Checks.{last_zeros_are}

-- lists that read the same at each place
abbrev Same : List ℕ → List ℕ → Type 0
Same xs ys = (i : ℕ) → slice_index xs i ≡ slice_index ys i

pub zero_byte : (count i : ℕ) → slice_index (replicate count 0) i ≡ 0
zero_byte zero i = refl
zero_byte (suc count) zero = refl
zero_byte (suc count) (suc i) = zero_byte count i

pub zeros_same : (xs : List ℕ) (count : ℕ) → Same (xs ++ replicate count 0) xs
zeros_same xs count i = grind (arith, nat_tests, cases_lt, get_or_append_left, get_or-append_right, zero_byte, get_or_past)

same_from : (xs ys : List ℕ) (i n : ℕ) → Same xs ys → big_from i n xs ≡ big_from i n ys
same_from xs ys i zero same = refl
same_from xs ys i (suc n) same = grind (arith, nat_tests, same_from xs ys (suc i) n)

same_number : (xs ys : List ℕ) (at n : ℕ) → Same xs ys → number_at xs at n ≡ number_at ys at n
same_number xs ys at n same = same_from (drop at xs) (drop at ys) 0 n (λ i. get_or-drop at xs i 0 ∙ same (at + i) ∙ sym (get_or-drop at ys i 0))

same_segments : (xs ys : List ℕ) (at count : ℕ) → Same xs ys → segments_at xs at count ≡ segments_at ys at count
same_segments xs ys at zero same = refl
same_segments xs ys at (suc count) same = cc (same_number xs ys at 2 same, same_number xs ys (at + 2) 2 same, same_segments xs ys (at + 4) count same)

same_listed : (xs ys : List ℕ) → Same xs ys → segments_of xs ≡ segments_of ys
same_listed xs ys same = ap (λ (n : ℕ). segments_at xs 16 (min n 15)) (same_number xs ys 10 2 same) ∙ same_segments xs ys 16 (min (number_at ys 10 2) 15) same

same_zeros : (xs ys : List ℕ) (at count : ℕ) → Same xs ys → zeros xs at count ≡ zeros ys at count
same_zeros xs ys at zero same = refl
same_zeros xs ys at (suc count) same = grind (arith, nat_tests, same_zeros xs ys (at + 1) count)

-- a header by what its fields say
abbrev pub made : ℕ → List (ℕ × ℕ) → ℕ → ℕ → Header
made version segments fine bank_bytes = record { directory = record { page = page_size_of version; segments = segments; fine = fine }; bank_bytes = bank_bytes }

pub same_header : (xs ys : List ℕ) → Same xs ys → header_of xs ≡ header_of ys
same_header xs ys same = cc (same_number xs ys 8 2 same, same_listed xs ys same, same_number xs ys 76 2 same, same_number xs ys 12 4 same)

abbrev rest : PageSize → List ℕ → List (ℕ × ℕ) → List Field
rest page image segments = segment_fields 16 1 1024 segments ++ spare_fields page image (length segments)

-- the fields behind the name
abbrev behind_name : List ℕ → List Field
behind_name image =
    within 8 2 (number_at image 8 2) 1 2
    ∷ within 10 2 (number_at image 10 2) 1 15
    ∷ within 12 4 (number_at image 12 4) 4096 131072
    ∷ rest (page_size_of (number_at image 8 2)) image (segments_of image)

same_spare : (page : PageSize) (xs ys : List ℕ) (count : ℕ) → Same xs ys → spare_fields page xs count ≡ spare_fields page ys count
same_spare Two xs ys count same = same_zeros xs ys (16 + 4 * count) (112 - 4 * count) same
same_spare Four xs ys count same =
    let front = zeros ys (16 + 4 * count) (60 - 4 * count) in
    let most = 2 ^ count - 1 in
    cc (same_zeros xs ys (16 + 4 * count) (60 - 4 * count) same, same_number xs ys 76 2 same, last_zeros_are xs, same_zeros xs ys 78 50 same, last_zeros_are ys)

same_behind : (xs ys : List ℕ) → Same xs ys → behind_name xs ≡ behind_name ys
same_behind xs ys same =
    let page = page_size_of (number_at ys 8 2) in
    cc (same_number xs ys 8 2 same, same_number xs ys 10 2 same, same_number xs ys 12 4 same, same_listed xs ys same, same_spare page xs ys (length (segments_of ys)) same)

-- of a name that isn't whole the bytes don't matter
same_name : (xs ys : List ℕ) (bytes : ℕ) (later : List Field) → (8 ≤ bytes → take 8 xs ≡ take 8 ys) → first_fault bytes (name_field xs ∷ later) ≡ first_fault bytes (name_field ys ∷ later)
same_name xs ys bytes later whole = grind (arith, nat_tests, cases_lt, whole)

pub same_fields : (xs ys : List ℕ) (bytes : ℕ) → Same xs ys → (8 ≤ bytes → take 8 xs ≡ take 8 ys) → first_fault bytes (fields xs) ≡ first_fault bytes (fields ys)
same_fields xs ys bytes same whole =
    same_name xs ys bytes (behind_name xs) whole ∙ ap (λ (later : List Field). first_fault bytes (name_field ys ∷ later)) (same_behind xs ys same)

pub read_is : (told : Option (List ℕ)) (into : List ℕ) (at count : ℕ) → IsSome told → IfSome told (λ bytes. into ≡ bytes_at bytes at count) → into ≡ bytes_at (unwrap_or told []) at count
read_is told into at count some is = grind (arith, nat_tests)

pub number_is : (told : Option (List ℕ)) (number : ℕ) → IsSome told → IfSome told (λ bytes. number ≡ length bytes) → number ≡ length (unwrap_or told [])
number_is told number some is = grind (arith, nat_tests)

-- what is read of a header, with zeros up to 128 bytes
module _ (held : List ℕ) where
  abbrev pub padded : List ℕ
  padded = take 128 held ++ replicate (128 - length held) 0

  pub padded_is : (into back : List ℕ) (whole : ℕ) → whole ≡ min (length held) 128 → into ≡ take whole (drop 0 held) → back ≡ drop whole (replicate 128 0) → into ++ back ≡ padded
  padded_is into back whole is front behind =
      let left : 128 - whole ≡ 128 - length held = omega arith in
      let these : take whole held ≡ take 128 held = elim (cases_lt (length held) 128) [
        | inl few ↦ take_all whole held (omega arith) ∙ sym (take_all 128 held (omega arith))
        | inr many ↦ let all : whole ≡ 128 = omega arith in ap (λ (n : ℕ). take n held) all
      ] in
      ap (λ (xs : List ℕ). xs ++ back) (front ∙ these)
      ∙ ap (λ (xs : List ℕ). take 128 held ++ xs) (behind ∙ drop-replicate whole 128 0 ∙ ap (λ (n : ℕ). replicate n 0) left)

  pub padded_fault : first_fault (length held) (fields padded) ≡ first_fault (length held) (fields (take 128 held))
  padded_fault =
      same_fields padded (take 128 held) (length held) (zeros_same (take 128 held) (128 - length held))
      (λ enough. take-append-le 8 (take 128 held) (replicate (128 - length held) 0) (omega (arith, enough, length-take 128 held)))

  pub padded_header : header_of padded ≡ header_of (take 128 held)
  padded_header = same_header padded (take 128 held) (zeros_same (take 128 held) (128 - length held))
