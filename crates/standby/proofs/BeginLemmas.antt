-- The lines of a record of a text, and the records that are due.
use Rattle.standby.proofs.Common.{◌≡◌, ℕ, zero, suc, ◌+◌, ◌-◌, ◌*◌, ◌/◌, ◌<◌, ◌≤◌, List, [], ◌∷◌, length, take, drop, get_or, refl, ap, arith, All, drop-drop, PageSize, RecordLine, record_bytes, entry_bytes, ShipLine, AreLines, parted, told, nat_tests, map, sym, subst, ◌∙◌, Option, option_map, drop-map, length-map, take_rest, All-drop, All-map, slice_get-map, line_count, Header, most_lines, line_bytes, IsAlike, IsFirstLong, IsLongAt, IsFitting, IsPacked, IsShip, ship_content, record_of, ShipRecord, take-map}
use Rattle.std.proofs.Math.ListN.{get_or-map}
use Rattle.standby.specs.declared.text.Ship.{Ship}
use Rattle.std.proofs.lemmas.List.Elements.{All-cons}

pub length-parted : (bytes : ℕ) (lines all : List ℕ) → length (parted bytes lines all) ≡ length lines
length-parted bytes [] all = refl
length-parted bytes (line ∷ lines) all = ap suc (length-parted bytes lines (drop bytes all))

-- one of them
abbrev pub part_at : ℕ → List ℕ → List ℕ → ℕ → ShipLine
part_at bytes lines all i = record { line = get_or lines i 0; bytes = take bytes (drop (bytes * i) all) }

abbrev pub no_line : ShipLine
no_line = record { line = 0; bytes = [] }

pub get_or-parted : (bytes : ℕ) (lines all : List ℕ) (i : ℕ) → i < length lines → get_or (parted bytes lines all) i no_line ≡ part_at bytes lines all i
get_or-parted bytes [] all i lt = absurd (omega (arith, lt))
get_or-parted bytes (line ∷ lines) all zero lt = let none : bytes * 0 ≡ 0 = omega arith in cc
get_or-parted bytes (line ∷ lines) all (suc i) lt = grind (arith, nat_tests, get_or-parted bytes lines (drop bytes all) i, drop-drop)

-- each lies below the bound, and above those before it
pub line_below : (bytes bound least : ℕ) (lines : List ShipLine) (i : ℕ) → AreLines bytes bound least lines → i < length lines → (get_or lines i no_line).line < bound
line_below bytes bound least [] i are lt = absurd (omega (arith, lt))
line_below bytes bound least (line ∷ lines) zero are lt = are.1
line_below bytes bound least (line ∷ lines) (suc i) are lt = line_below bytes bound (line.line + 1) lines i are.4 (omega (arith, lt))

pub line_above : (bytes bound least : ℕ) (lines : List ShipLine) (i : ℕ) → AreLines bytes bound least lines → i < length lines → least ≤ (get_or lines i no_line).line
line_above bytes bound least [] i are lt = absurd (omega (arith, lt))
line_above bytes bound least (line ∷ lines) zero are lt = are.0
line_above bytes bound least (line ∷ lines) (suc i) are lt = omega (arith, line_above bytes bound (line.line + 1) lines i are.4 (omega (arith, lt)), are.0)

-- lines of a bank that are told as the first so many are below the next
pub before_next : (bytes bound least : ℕ) (lines : List ShipLine) (begun : List RecordLine) (i : ℕ) → AreLines bytes bound least lines → i < length lines → told begun ≡ take i lines → All (λ one. one.line < (get_or lines i no_line).line) begun
before_next bytes bound least lines [] i are lt is = λ k d below. absurd (omega (arith, below))
before_next bytes bound least [] (first ∷ begun) i are lt is = absurd (omega (arith, lt))
before_next bytes bound least (line ∷ lines) (first ∷ begun) zero are lt is = let no : told (first ∷ begun) ≡ [] = is in cc
before_next bytes bound least (line ∷ lines) (first ∷ begun) (suc i) are lt is =
    grind (arith, nat_tests, line_above bytes bound (line.line + 1) lines i are.4, All-cons (λ (one : RecordLine). one.line < (get_or lines i no_line).line) first begun, before_next bytes bound (line.line + 1) lines begun i are.4)

-- a record has room for one line more where it has fewer than the most
pub room_for : (page : PageSize) (bank_bytes count : ℕ) → count < (bank_bytes - 12) / entry_bytes page → record_bytes page (count + 1) + 1 ≤ bank_bytes
room_for page bank_bytes count few = grind arith

all_unmap : {X Y : Type 0} (P : Y → Type 0) (f : X → Y) (xs : List X) → All P (map f xs) → All (λ x. P (f x)) xs
all_unmap P f xs all k d lt = subst P (get_or-map f xs k d) (all k (f d) (omega (arith, lt, length-map xs f)))

-- each record fits the store
fits_all : (header : Header) (bytes lines : ℕ) (records : List ShipRecord) → bytes ≡ line_bytes header.directory.page → lines ≡ line_count header.directory → All (IsPacked bytes) records
    → All (λ kept. AreLines bytes lines 0 (record_of bytes kept)) records → All (λ kept. length kept.lines.items ≤ most_lines header) records → All (IsFitting header) records
fits_all header bytes lines records same many packed are few k d lt = grind (arith, nat_tests, many)

module _ (ship : Ship) (header : Header) (is : IsShip ship) (alike : IsAlike header (ship_content ship)) (passed : ℕ) (items slice : List ShipRecord) (items_are : items ≡ ship.records.items) (slice_is : slice ≡ take (length items - passed) (drop passed items)) where
  slice_rest : slice ≡ drop passed ship.records.items
  slice_rest = slice_is ∙ take_rest items passed ∙ ap (λ (these : List ShipRecord). drop passed these) items_are

  -- those that the code has are the text's behind the number
  pub due_are : map (record_of (line_bytes header.directory.page)) slice ≡ drop passed (map (record_of ship.line_bytes) ship.records.items)
  due_are = grind (arith, nat_tests, slice_rest, drop-map)

  pub fitting : All (λ kept. length kept.lines.items ≤ most_lines header) slice → All (IsFitting header) slice
  fitting few =
      fits_all header ship.line_bytes ship.lines slice alike.bytes alike.lines
      (subst (λ (these : List ShipRecord). All (IsPacked ship.line_bytes) these) (sym slice_rest) (All-drop (IsPacked ship.line_bytes) passed ship.records.items is.packed))
      (subst (λ (these : List ShipRecord). All (λ kept. AreLines ship.line_bytes ship.lines 0 (record_of ship.line_bytes kept)) these) (sym slice_rest)
      (All-drop (λ (kept : ShipRecord). AreLines ship.line_bytes ship.lines 0 (record_of ship.line_bytes kept)) passed ship.records.items
      (all_unmap (λ (lines : List ShipLine). AreLines ship.line_bytes ship.lines 0 lines) (record_of ship.line_bytes) ship.records.items is.content.records)))
      few

  pub few_are : All (λ kept. length kept.lines.items ≤ most_lines header) slice → All (λ lines. length lines ≤ most_lines header) (drop passed (map (record_of ship.line_bytes) ship.records.items))
  few_are few =
      subst (λ (these : List (List ShipLine)). All (λ lines. length lines ≤ most_lines header) these) due_are
      (All-map (λ (lines : List ShipLine). length lines ≤ most_lines header) (record_of (line_bytes header.directory.page)) slice
      (λ k d lt. let many = length-parted (line_bytes header.directory.page) (get_or slice k d).lines.items (get_or slice k d).bytes.items in let these = few k d lt in omega (arith, many, these)))

  pub first_is : (place : ℕ) → IsLongAt (most_lines header) slice place → IsFirstLong (most_lines header) (drop passed (map (record_of ship.line_bytes) ship.records.items)) place
  first_is place long =
      subst (λ (these : List (List ShipLine)). IsFirstLong (most_lines header) these place) due_are
      (record {
        lines = record_of (line_bytes header.directory.page) long.kept;
        there = slice_get-map (record_of (line_bytes header.directory.page)) slice place ∙ ap (λ (kept : Option ShipRecord). option_map (record_of (line_bytes header.directory.page)) kept) long.there;
        long = omega (arith, long.long, length-parted (line_bytes header.directory.page) long.kept.lines.items long.kept.bytes.items);
        before =
            subst (λ (these : List (List ShipLine)). All (λ lines. length lines ≤ most_lines header) these) (sym (take-map (record_of (line_bytes header.directory.page)) place slice))
            (All-map (λ (lines : List ShipLine). length lines ≤ most_lines header) (record_of (line_bytes header.directory.page)) (take place slice)
            (λ k d lt. let many = length-parted (line_bytes header.directory.page) (get_or (take place slice) k d).lines.items (get_or (take place slice) k d).bytes.items in let these = long.before k d lt in omega (arith, many, these)));
      })
