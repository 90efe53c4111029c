-- The records of a bank, each at its place.
use Rattle.store.proofs.Common.{drop-drop, big_number, line_bytes, PageSize, entry_bytes, number_at, RecordLine, lines_from, parsed_lines, count_of, record_bytes, wrong_line, Area, Holds, HoldsFrom, gate_at, IsSound, follows, has_bank, BankView, bank_place, area_bytes, IsRecordAt, IsCounted, IsCountedAt, BeginsWithLine, IsLineOf, Record, None, ◌≡◌, ℕ, zero, suc, ◌+◌, ◌*◌, ◌<◌, List, [], ◌∷◌, ◌++◌, length, take, drop, refl, sym, subst, ◌∙◌, ap, arith, Some, slice_get, nat_tests}
use Rattle.store.proofs.AppendLemmas.{length-lines_from}

-- where a record with these lines stands, in an area with this end, of a store with so many lines
pub record StandsAt (page : PageSize) (image : List ℕ) (bound end at : ℕ) (lines : List RecordLine) : Type 0 where
  pub lines_are : lines ≡ parsed_lines page at (drop at image)
  pub count : count_of (drop at image) ≡ length lines
  pub fits : at + record_bytes page (length lines) < end
  pub in_order : wrong_line bound 0 lines ≡ None

of_sound : (page : PageSize) (image : List ℕ) (bound end at : ℕ) (lines : List RecordLine) (next : ℕ) → IsSound page bound end at (drop at image) lines next → StandsAt page image bound end at lines
of_sound page image bound end at lines next is = grind (arith, nat_tests, length-lines_from)

-- each record stands behind those before it
found_at : (image : List ℕ) (area : Area) (number from gate : ℕ) (before : List (List RecordLine)) (lines : List RecordLine) (after : List (List RecordLine))
    → HoldsFrom image area number (gate_at image area number from) (Holds gate (before ++ lines ∷ after)) → StandsAt area.page image area.bound area.end (from + area_bytes area.page before) lines
found_at image area number from gate [] lines after holds =
    let here = follows image area holds from gate lines after refl refl in
    let place : from ≡ from + area_bytes area.page [] = omega arith in
    subst (λ (n : ℕ). StandsAt area.page image area.bound area.end n lines) place (of_sound area.page image area.bound area.end from lines here.next here.sound)
found_at image area number from gate (first ∷ before) lines after holds =
    let here = follows image area holds from gate first (before ++ lines ∷ after) refl refl in
    let count = (of_sound area.page image area.bound area.end from first here.next here.sound).count in
    let place : here.next + area_bytes area.page before ≡ from + area_bytes area.page (first ∷ before) = omega (arith, here.sound.is_next, ap (λ (n : ℕ). entry_bytes area.page * n) count) in
    subst (λ (n : ℕ). StandsAt area.page image area.bound area.end n lines) place (found_at image area (number + 1) here.next gate before lines after here.rest)

-- a record of a bank that was read
pub stands_there : (held : List ℕ) (bank : BankView) (place : ℕ) (at : IsRecordAt held bank place) → StandsAt bank.page held (length bank.newest) (bank_place bank.which bank.bank_bytes + 8 + bank.bank_bytes) (bank_place bank.which bank.bank_bytes + 8 + place) at.lines
stands_there held bank place at =
    let start = bank_place bank.which bank.bank_bytes in
    let number = number_at held start 8 in
    let area : Area = record { page = bank.page; bound = length bank.newest; end = start + 8 + bank.bank_bytes } in
    let found = found_at held area number (start + 8) bank.gate at.before at.lines at.after (has_bank held bank.page (length bank.newest) start bank.bank_bytes _ (at.read.holds ∙ ap (Holds bank.gate) at.are)) in
    let place_is : start + 8 + area_bytes bank.page at.before ≡ start + 8 + place = omega (arith, at.place_is) in
    subst (λ (n : ℕ). StandsAt bank.page held (length bank.newest) (start + 8 + bank.bank_bytes) n at.lines) place_is found

-- one of the lines that bytes begin with
pub line_there : (page : PageSize) (count at : ℕ) (bytes : List ℕ) (index : ℕ) → index < count
    → slice_get (lines_from page count at bytes) index ≡ Some (record { line = big_number 4 (drop (entry_bytes page * index) bytes); at = at + entry_bytes page * index; bytes = take (line_bytes page) (drop 4 (drop (entry_bytes page * index) bytes)) })
line_there page zero at bytes index below = absurd (omega (arith, below))
line_there page (suc count) at bytes zero below =
    let none : 0 ≡ entry_bytes page * 0 = omega arith in
    let place : at ≡ at + entry_bytes page * 0 = omega arith in
    ap (λ (n : ℕ). Some (record { line = big_number 4 bytes; at = n; bytes = take (line_bytes page) (drop 4 bytes) })) place
    ∙ ap (λ (n : ℕ). Some (record { line = big_number 4 (drop n bytes); at = at + entry_bytes page * 0; bytes = take (line_bytes page) (drop 4 (drop n bytes)) })) none
line_there page (suc count) at bytes (suc index) below = grind (arith, nat_tests, line_there page count (at + entry_bytes page) (drop (entry_bytes page) bytes) index, drop-drop)

module _ (held : List ℕ) (bank : BankView) (place area : ℕ) (at : IsRecordAt held bank place) (area_is : area ≡ bank_place bank.which bank.bank_bytes + 8) where
  there : StandsAt bank.page held (length bank.newest) (area + bank.bank_bytes) (area + place) at.lines
  there = subst (λ (n : ℕ). StandsAt bank.page held (length bank.newest) (n + bank.bank_bytes) (n + place) at.lines) (sym area_is) (stands_there held bank place at)

  -- the number of lines that stands there
  number-there : number_at held (area + place + 1) 2 ≡ length at.lines
  number-there = sym (ap (λ (these : List ℕ). big_number 2 these) (drop-drop 1 (area + place) held)) ∙ there.count

  -- a head that was read counts its lines
  pub counted : (found : Record) → IsCountedAt bank.page area bank.bank_bytes place held found → IsCounted bank.page place at.lines found
  counted found read = grind (arith, nat_tests, there, number-there)

  -- and a line that was read is the record's
  pub lined : (index line : ℕ) (into : List ℕ) → index < length at.lines → BeginsWithLine bank.page (area + place + 11 + entry_bytes bank.page * index) into held line → IsLineOf at.lines index line into
  lined index line into below is =
      let bytes : drop (entry_bytes bank.page * index) (drop 11 (drop (area + place) held)) ≡ drop (area + place + 11 + entry_bytes bank.page * index) held =
      ap (λ (these : List ℕ). drop (entry_bytes bank.page * index) these) (drop-drop 11 (area + place) held) ∙ drop-drop (entry_bytes bank.page * index) (area + place + 11) held in
      let inside : index < count_of (drop (area + place) held) = omega (arith, below, there.count) in
      record {
        one = record { line = big_number 4 (drop (entry_bytes bank.page * index) (drop 11 (drop (area + place) held))); at = area + place + 11 + entry_bytes bank.page * index; bytes = take (line_bytes bank.page) (drop 4 (drop (entry_bytes bank.page * index) (drop 11 (drop (area + place) held)))) };
        there = ap (λ (these : List RecordLine). slice_get these index) there.lines_are ∙ line_there bank.page (count_of (drop (area + place) held)) (area + place + 11) (drop 11 (drop (area + place) held)) index inside;
        number = is.number ∙ sym (ap (λ (these : List ℕ). big_number 4 these) bytes);
        bytes_are = is.bytes_are ∙ sym (ap (λ (these : List ℕ). take (line_bytes bank.page) (drop 4 these)) bytes);
      }
