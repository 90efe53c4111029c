-- The newest place of a line has its bytes of the store.
use Rattle.store.proofs.Common.{◌≡◌, inl, inr, ℕ, zero, suc, ◌+◌, ◌*◌, ◌-◌, ◌<◌, ◌≤◌, List, [], ◌∷◌, ◌++◌, length, take, drop, refl, sym, ◌∙◌, ap, subst, arith, option_or, nat_tests, cases_lt, cases_eq, take_at, drop-drop, take-append-drop, length-drop, length-take-le, overlaid, big_number, line_count, PageSize, Which, line_bytes, Header, home_at, bank_at, number_at, entry_bytes, RecordLine, lines_from, wrong_line, parsed_lines, count_of, Area, Holds, HoldsFrom, gate_at, area_behind, bank_held, follows, has_bank, area_within, laid, home_of, IsStore, shorter_front, rest_front, length-overlaid, lines-below, place_in, newest_place, Option, None, Some, fold, option_or-assoc, nil_from_length}
use Rattle.store.proofs.NoteLemmas.{take-overlaid, drop-overlaid, behind-overlaid, first_in_order, or_none, AreBelow, AllBelow, last_of}

-- the bytes of a line in a list of lines
abbrev pub bytes_of_line : PageSize → ℕ → List ℕ → List ℕ
bytes_of_line page k bytes = take (line_bytes page) (drop (k * line_bytes page) bytes)

pub same_line : (page : PageSize) (bytes part : List ℕ) (j : ℕ) → length part ≡ line_bytes page → j * line_bytes page + line_bytes page ≤ length bytes → bytes_of_line page j (overlaid bytes (j * line_bytes page) part) ≡ part
same_line page bytes part j long within = grind (arith, nat_tests, drop-overlaid, take_at)

pub other_line : (page : PageSize) (bytes part : List ℕ) (j k : ℕ) → length part ≡ line_bytes page → j * line_bytes page + line_bytes page ≤ length bytes → (k ≡ j → ⊥) → bytes_of_line page k (overlaid bytes (j * line_bytes page) part) ≡ bytes_of_line page k bytes
other_line page bytes part j k long within other = elim (cases_lt k j) [
  | inl before ↦
      shorter_front (line_bytes page) (j * line_bytes page - k * line_bytes page) (drop (k * line_bytes page) (overlaid bytes (j * line_bytes page) part)) (drop (k * line_bytes page) bytes)
      (rest_front (k * line_bytes page) (j * line_bytes page) (overlaid bytes (j * line_bytes page) part) bytes (take-overlaid bytes (j * line_bytes page) part (omega (arith, long))) (omega (arith, lines-below page k j before))) (omega (arith, lines-below page k j before))
  | inr behind ↦
      let more : k ≡ j → ⊥ = other in
      let whole : j * line_bytes page + length part + (k * line_bytes page - (j * line_bytes page + line_bytes page)) ≡ k * line_bytes page = later k j behind more in
      ap (λ (n : ℕ). take (line_bytes page) (drop n (overlaid bytes (j * line_bytes page) part))) (sym whole)
      ∙ ap (λ (these : List ℕ). take (line_bytes page) these) (sym (drop-drop (k * line_bytes page - (j * line_bytes page + line_bytes page)) (j * line_bytes page + length part) (overlaid bytes (j * line_bytes page) part)))
      ∙ ap (λ (these : List ℕ). take (line_bytes page) (drop (k * line_bytes page - (j * line_bytes page + line_bytes page)) these)) (behind-overlaid bytes (j * line_bytes page) part (omega (arith, long)))
      ∙ ap (λ (these : List ℕ). take (line_bytes page) these) (drop-drop (k * line_bytes page - (j * line_bytes page + line_bytes page)) (j * line_bytes page + length part) bytes)
      ∙ ap (λ (n : ℕ). take (line_bytes page) (drop n bytes)) whole
]
  where
    later : (k j : ℕ) → j ≤ k → (k ≡ j → ⊥) → j * line_bytes page + length part + (k * line_bytes page - (j * line_bytes page + line_bytes page)) ≡ k * line_bytes page
    later k j le more = let less : j < k = omega (arith, le, more) in omega (arith, long, lines-below page j k less)

-- the bytes of a line by its newest place in an image, or by its home
abbrev pub newest_bytes : PageSize → List ℕ → List ℕ → ℕ → Option ℕ → List ℕ
newest_bytes page image home k None = bytes_of_line page k home
newest_bytes page image home k (Some place) = take (line_bytes page) (drop place image)

-- each line of the bytes is where the newest places say
pub record Agree (page : PageSize) (bound : ℕ) (image home bytes : List ℕ) (newest : ℕ → Option ℕ) : Type 0 where
  pub long : length bytes ≡ bound * line_bytes page
  pub each : (k : ℕ) → k < bound → bytes_of_line page k bytes ≡ newest_bytes page image home k (newest k)

-- a line of a record of an image, in front of an end
pub record IsLine (page : PageSize) (bound end : ℕ) (image : List ℕ) (line : RecordLine) : Type 0 where
  pub below : line.line < bound
  pub has : line.bytes ≡ take (line_bytes page) (drop (line.at + 4) image)
  pub whole : length line.bytes ≡ line_bytes page
  pub within : line.at + entry_bytes page ≤ end

-- the newest places with a record more
abbrev pub newer : List RecordLine → (ℕ → Option ℕ) → ℕ → Option ℕ
newer lines newest k = option_or (place_in k lines) (newest k)

agree_line : (page : PageSize) (bound end : ℕ) (image home bytes : List ℕ) (newest : ℕ → Option ℕ) (line : RecordLine) → IsLine page bound end image line → Agree page bound image home bytes newest
    → Agree page bound image home (overlaid bytes (line.line * line_bytes page) line.bytes) (newer (line ∷ []) newest)
agree_line page bound end image home bytes newest line is agree = grind (arith, nat_tests, lines-below, length-overlaid, cases_eq, same_line, other_line, newest, agree.each)

abbrev pub AreLines : (page : PageSize) (bound end : ℕ) → List ℕ → List RecordLine → Type 0
AreLines page bound end image [] = Unit {0}
AreLines page bound end image (line ∷ lines) = IsLine page bound end image line × AreLines page bound end image lines

abbrev pub AreRecords : (page : PageSize) (bound end : ℕ) → List ℕ → List (List RecordLine) → Type 0
AreRecords page bound end image [] = Unit {0}
AreRecords page bound end image (lines ∷ records) = AreLines page bound end image lines × AreRecords page bound end image records

agree_lines : (page : PageSize) (bound end : ℕ) (image home bytes : List ℕ) (newest : ℕ → Option ℕ) (lines : List RecordLine) → AreLines page bound end image lines → Agree page bound image home bytes newest
    → Agree page bound image home (laid page bytes lines) (newer lines newest)
agree_lines page bound end image home bytes newest [] are agree = agree
agree_lines page bound end image home bytes newest (line ∷ lines) are agree = grind (arith, nat_tests, agree_line, option_or-assoc, newest, agree_lines page bound end image home (overlaid bytes (line.line * line_bytes page) line.bytes) (newer (line ∷ []) newest) lines are.1 (agree_line page bound end image home bytes newest line are.0 agree))

agree_records : (page : PageSize) (bound end : ℕ) (image home bytes : List ℕ) (newest : ℕ → Option ℕ) (records : List (List RecordLine)) → AreRecords page bound end image records → Agree page bound image home bytes newest
    → Agree page bound image home (fold (laid page) bytes records) (λ k. option_or (newest_place k records) (newest k))
agree_records page bound end image home bytes newest [] are agree = agree
agree_records page bound end image home bytes newest (lines ∷ records) are agree = grind (arith, nat_tests, agree_lines, option_or-assoc, newest, agree_records page bound end image home (laid page bytes lines) (newer lines newest) records are.1 (agree_lines page bound end image home bytes newest lines are.0 agree))

-- lines of an image are below its bound
lines_below : (page : PageSize) (bound end : ℕ) (image : List ℕ) (lines : List RecordLine) → AreLines page bound end image lines → AreBelow bound lines
lines_below page bound end image [] are = tt
lines_below page bound end image (line ∷ lines) are = (are.0.below, lines_below page bound end image lines are.1)

pub all_below : (page : PageSize) (bound end : ℕ) (image : List ℕ) (records : List (List RecordLine)) → AreRecords page bound end image records → AllBelow bound records
all_below page bound end image [] are = tt
all_below page bound end image (lines ∷ records) are = (lines_below page bound end image lines are.0, all_below page bound end image records are.1)

-- lines in order that lie in an image
lines_are : (page : PageSize) (bound least count at end : ℕ) (image : List ℕ) → at + entry_bytes page * count ≤ end → end ≤ length image → wrong_line bound least (lines_from page count at (drop at image)) ≡ None → AreLines page bound end image (lines_from page count at (drop at image))
lines_are page bound least zero at end image fits whole none = tt
lines_are page bound least (suc count) at end image fits whole none =
    let here : RecordLine = record { line = big_number 4 (drop at image); at = at; bytes = take (line_bytes page) (drop 4 (drop at image)) } in
    let rest : lines_from page count (at + entry_bytes page) (drop (entry_bytes page) (drop at image)) ≡ lines_from page count (at + entry_bytes page) (drop (at + entry_bytes page) image) = ap (λ (these : List ℕ). lines_from page count (at + entry_bytes page) these) (drop-drop (entry_bytes page) at image) in
    let first = first_in_order bound least here (lines_from page count (at + entry_bytes page) (drop (entry_bytes page) (drop at image))) none in
    let others = lines_are page bound (here.line + 1) count (at + entry_bytes page) end image (omega arith) whole (ap (wrong_line bound (here.line + 1)) (sym rest) ∙ first.rest) in (
      record {
        below = first.below;
        has = ap (λ (these : List ℕ). take (line_bytes page) these) (drop-drop 4 at image);
        whole = length-take-le (line_bytes page) (drop 4 (drop at image)) (omega (arith, length-drop 4 (drop at image), length-drop at image));
        within = omega arith;
      },
      subst (λ (these : List RecordLine). AreLines page bound end image these) (sym rest) others,
    )

records_are : (image : List ℕ) (area : Area) (number from gate : ℕ) (records : List (List RecordLine)) → area.end ≤ length image → HoldsFrom image area number (gate_at image area number from) (Holds gate records) → AreRecords area.page area.bound area.end image records
records_are image area number from gate [] whole holds = tt
records_are image area number from gate (lines ∷ records) whole holds =
    let next = follows image area holds from gate lines records refl refl in
    let count = count_of (drop from image) in
    let place : parsed_lines area.page from (drop from image) ≡ lines_from area.page count (from + 11) (drop (from + 11) image) = ap (λ (these : List ℕ). lines_from area.page count (from + 11) these) (drop-drop 11 from image) in
    let first = lines_are area.page area.bound 0 count (from + 11) area.end image (omega (arith, next.sound.is_next, next.sound.fits)) whole (ap (wrong_line area.bound 0) (sym place) ∙ next.sound.in_order) in
    (subst (λ (these : List RecordLine). AreLines area.page area.bound area.end image these) (sym (next.sound.lines_are ∙ place)) first, records_are image area (number + 1) next.next gate records whole next.rest)

-- where a line has its newest bytes there are as many before the end
place_within : (page : PageSize) (bound end : ℕ) (image : List ℕ) (k place : ℕ) (lines : List RecordLine) → AreLines page bound end image lines → place_in k lines ≡ Some place → place + line_bytes page ≤ end
place_within page bound end image k place [] are is = cc
place_within page bound end image k place (line ∷ lines) are is = grind (arith, nat_tests, place_within page bound end image k place lines, are.0.within)

pub newest_within : (page : PageSize) (bound end : ℕ) (image : List ℕ) (k place : ℕ) (records : List (List RecordLine)) → AreRecords page bound end image records → newest_place k records ≡ Some place → place + line_bytes page ≤ end
newest_within page bound end image k place [] are is = cc
newest_within page bound end image k place (lines ∷ records) are is = grind (arith, nat_tests, last_of, newest_within page bound end image k place records, place_within)

-- the records that a bank holds lie in the image
pub held_records : (page : PageSize) (image : List ℕ) (bound at bank_bytes gate : ℕ) (records : List (List RecordLine)) → at + 8 + bank_bytes ≤ length image → bank_held image page bound at bank_bytes ≡ Holds gate records → AreRecords page bound (at + 8 + bank_bytes) image records
held_records page image bound at bank_bytes gate records whole holds =
    records_are image (area_behind page bound at bank_bytes) (number_at image at 8) (at + 8) gate records whole (has_bank image page bound at bank_bytes (Holds gate records) holds)

-- each line of the store that an image stands for is where its newest place says, or at home
pub store_agrees : (image : List ℕ) (header : Header) (which : Which) (base gate : ℕ) (records : List (List RecordLine)) → IsStore image header which base gate records
    → Agree header.directory.page (line_count header.directory) image (home_of image header) (fold (laid header.directory.page) (home_of image header) records) (λ k. newest_place k records)
store_agrees image header which base gate records is =
    let all =
    agree_records header.directory.page (line_count header.directory) (bank_at header which + 8 + header.bank_bytes) image (home_of image header) (home_of image header) (λ k. None) records
    (held_records header.directory.page image (line_count header.directory) (bank_at header which) header.bank_bytes gate records (omega (arith, (area_within header which).0, is.whole)) is.holds)
    (record { long = omega (arith, length-drop (home_at header 0) image, is.whole); each = λ k within. refl }) in
    record { long = all.long; each = λ k within. all.each k within ∙ ap (newest_bytes header.directory.page image (home_of image header) k) (or_none (newest_place k records)) }

-- lists of as many lines that have the same lines
pub same_lines : (page : PageSize) (n : ℕ) (xs ys : List ℕ) → length xs ≡ n * line_bytes page → length ys ≡ n * line_bytes page → ((k : ℕ) → k < n → bytes_of_line page k xs ≡ bytes_of_line page k ys) → xs ≡ ys
same_lines page zero xs ys long long' each = nil_from_length xs (omega arith) ∙ sym (nil_from_length ys (omega arith))
same_lines page (suc n) xs ys long long' each =
    sym (take-append-drop (line_bytes page) xs)
    ∙ ap (λ (these : List ℕ). these ++ drop (line_bytes page) xs) (first xs ∙ each 0 (omega arith) ∙ sym (first ys))
    ∙ ap (λ (these : List ℕ). take (line_bytes page) ys ++ these)
    (same_lines page n (drop (line_bytes page) xs) (drop (line_bytes page) ys) (omega (arith, length-drop (line_bytes page) xs)) (omega (arith, length-drop (line_bytes page) ys))
    (λ k few. ap (λ (these : List ℕ). take (line_bytes page) these) (moved xs k) ∙ each (suc k) (omega arith) ∙ ap (λ (these : List ℕ). take (line_bytes page) these) (sym (moved ys k))))
    ∙ take-append-drop (line_bytes page) ys
  where
    first : (zs : List ℕ) → take (line_bytes page) zs ≡ bytes_of_line page 0 zs
    first zs = let none : 0 ≡ 0 * line_bytes page = omega arith in ap (λ (n : ℕ). take (line_bytes page) (drop n zs)) none

    moved : (zs : List ℕ) (k : ℕ) → drop (k * line_bytes page) (drop (line_bytes page) zs) ≡ drop (suc k * line_bytes page) zs
    moved zs k = let place : (line_bytes page) + k * line_bytes page ≡ suc k * line_bytes page = omega arith in drop-drop (k * line_bytes page) (line_bytes page) zs ∙ ap (λ (n : ℕ). drop n zs) place
