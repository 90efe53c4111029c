-- The records of a bank, as they are shipped.
use Rattle.standby.proofs.Common.{Some, slice_get, flat_map-append, All-push, get_or_from_slice_get, take_more, get_or-map, length-map, length-take-le, take-append-drop, PageSize, RecordLine, record_bytes, Record, BankView, IsCounted, IsRecordAt, area_bytes, Ghosts, held_of, StoreView, IsShown, ShipLine, later, line_line, lines_text, next, record_text, records_text, told, All, ◌≡◌, ℕ, ◌+◌, ◌<◌, List, [], ◌∷◌, ◌++◌, length, map, take, drop, get_or, refl, sym, ◌∙◌, ap, subst, arith, append_assoc, append-nil, add-one, IsSome, Option, Result, unwrap_or, Failed, AsksAndPuts, shows_puts, Shows, PutsAtOnce, None, nat_tests, All-drop, All-map, recursion_from_All, AllByRecursion, line_count, line_bytes, wrong_line, HasBytes, shipped, behind, AreLines, IsContent, ◌^◌, flat_map_more}
use Rattle.std.proofs.Math.Seq.{split_at as cut}
use Rattle.store.specs.Opened.{IsRead}
use Rattle.store_format.proofs.Widths.{line-few, line-some}
use Rattle.store.proofs.RecordLemmas.{stands_there}

module _ {W : Type 0} (G : Ghosts W) where
  pub shows_line : {T : Type 0} (bytes : List ℕ) (old new : W) (result : Result T Failed) → PutsAtOnce G bytes old new result → AsksAndPuts G old new
  shows_line bytes old new result puts = shows_puts G bytes old new result puts.only puts.printed (λ image seen left. let from = puts.crash image seen left in (from.0, from.1))

  -- a store that is shown is shown still, with the same records
  pub still_shown : (store : StoreView) (old new : W) → (shown : IsShown G store old) → G.held new ≡ G.held old → (still : IsShown G store new) × (still.shows.read.records ≡ shown.shows.read.records)
  still_shown store old new shown held =
      let same : held_of G new ≡ held_of G old = ap (λ (these : Option (List ℕ)). unwrap_or these []) held in
      let still = subst (λ (held : List ℕ). (shows : Shows held store) × (shows.read.records ≡ shown.shows.read.records)) (sym same) (shown.shows, refl) in
      (record { told = subst (λ (these : Option (List ℕ)). IsSome these) (sym held) shown.told; shows = still.0 }, still.1)

area_append : (page : PageSize) (xs : List (List RecordLine)) (lines : List RecordLine) → area_bytes page (xs ++ lines ∷ []) ≡ area_bytes page xs + record_bytes page (length lines)
area_append page [] lines = omega arith
area_append page (x ∷ xs) lines = omega (arith, area_append page xs lines)

-- the place of the next record
pub area_more : (page : PageSize) (records : List (List RecordLine)) (i : ℕ) → i < length records → area_bytes page (take (i + 1) records) ≡ area_bytes page (take i records) + record_bytes page (length (get_or records i []))
area_more page records i lt = ap (area_bytes page) (take_more records i [] lt) ∙ area_append page (take i records) (get_or records i [])

-- and where it is told to lie
pub next_is : (page paged : PageSize) (place : ℕ) (lines those : List RecordLine) (found : Record) → page ≡ paged → lines ≡ those → IsCounted page place lines found → found.next ≡ place + record_bytes paged (length those)
next_is page paged place lines those found same is counted = cc (counted.next)

-- one more of which it holds
pub all_more : {A : Type 0} (P : A → Type 0) (xs : List A) (i : ℕ) (d : A) → i < length xs → All P (take i xs) → P (get_or xs i d) → All P (take (i + 1) xs)
all_more {A} P xs i d lt all one = subst (λ (these : List A). All P these) (sym (take_more xs i d lt)) (All-push P (take i xs) (get_or xs i d) all one)

pub split_at : {A : Type 0} (xs : List A) (i : ℕ) (d : A) → i < length xs → xs ≡ take i xs ++ get_or xs i d ∷ drop (i + 1) xs
split_at xs i d lt = rw (add-one) (cut xs i d lt)

-- the record there
pub record_there : (held : List ℕ) (bank : BankView) (place : ℕ) (read : IsRead held bank) (i : ℕ) → i < length read.records → place ≡ area_bytes bank.page (take i read.records) → (at : IsRecordAt held bank place) × (at.lines ≡ get_or read.records i [])
record_there held bank place read i lt is = (
  record { read = read; before = take i read.records; lines = get_or read.records i []; after = drop (i + 1) read.records; are = split_at read.records i [] lt; place_is = is },
  refl,
)

pub later_later : (base passed more : ℕ) → later (later base passed) more ≡ later base (passed + more)
later_later base passed more = omega arith

-- records, and one more
pub records_append : (number : ℕ) (xs : List (List ShipLine)) (lines : List ShipLine) → records_text number (xs ++ lines ∷ []) ≡ records_text number xs ++ record_text (later number (length xs + 1)) lines
records_append number [] lines = append-nil (record_text (next number) lines)
records_append number (x ∷ xs) lines = grind (arith, nat_tests, records_append (next number) xs lines, append_assoc)

-- records, and others behind them
pub records_split : (number : ℕ) (xs ys : List (List ShipLine)) → (rest : List ℕ) × (records_text number (xs ++ ys) ≡ records_text number xs ++ rest)
records_split number [] ys = (records_text number ys, refl)
records_split number (x ∷ xs) ys =
    let more = records_split (next number) xs ys in
    (more.0, ap (λ (rest : List ℕ). record_text (next number) x ++ rest) more.1 ∙ sym (append_assoc (record_text (next number) x) (records_text (next number) xs) more.0))

-- the same record in bytes that are the same
pub there_still : (first second : List ℕ) (bank : BankView) (place : ℕ) → second ≡ first → (at : IsRecordAt first bank place) → (that : IsRecordAt second bank place) × (that.lines ≡ at.lines)
there_still first second bank place same at = subst (λ (held : List ℕ). (that : IsRecordAt held bank place) × (that.lines ≡ at.lines)) (sym same) (at, refl)

abbrev line_of : ShipLine → List ℕ
line_of line = line_line line.line line.bytes

abbrev bare : RecordLine → ShipLine
bare one = record { line = one.line; bytes = one.bytes }

-- a line of a record behind those before it
module _ (head : List ℕ) (lines : List RecordLine) (i : ℕ) (one : RecordLine) (lt : i < length lines) (there : slice_get lines i ≡ Some one) where
  inside : i < length (told lines)
  inside = omega (arith, lt, length-map lines bare)

  here : get_or (told lines) i (bare one) ≡ bare one
  here = get_or-map bare lines i one (bare one) lt ∙ ap bare (get_or_from_slice_get lines i one one there)

  pub text_more : (head ++ lines_text (take i (told lines))) ++ line_line one.line one.bytes ≡ head ++ lines_text (take (i + 1) (told lines))
  text_more =
      ap (λ (line : ShipLine). (head ++ lines_text (take i (told lines))) ++ line_of line) (sym here)
      ∙ flat_map_more line_of head (take i (told lines)) (get_or (told lines) i (bare one))
      ∙ ap (λ (these : List ShipLine). head ++ lines_text these) (sym (take_more (told lines) i (bare one) inside))

  pub text_rest : ((head ++ lines_text (take i (told lines))) ++ line_line one.line one.bytes) ++ lines_text (drop (i + 1) (told lines)) ≡ head ++ lines_text (told lines)
  text_rest = cc (text_more, append_assoc head (lines_text (take (i + 1) (told lines))) (lines_text (drop (i + 1) (told lines))), flat_map-append line_of (take (i + 1) (told lines)) (drop (i + 1) (told lines)), take-append-drop (i + 1) (told lines))

-- a record behind those before it
module _ (number : ℕ) (records : List (List RecordLine)) (i : ℕ) (lt : i < length records) where
  behind_them : i < length (map told records)
  behind_them = omega (arith, lt, length-map records told)

  at_place : get_or (map told records) i [] ≡ told (get_or records i [])
  at_place = get_or-map told records i [] [] lt

  many : length (take i (map told records)) ≡ i
  many = length-take-le i (map told records) (omega (arith, behind_them))

  pub records_more : records_text number (take i (map told records)) ++ record_text (later number (i + 1)) (told (get_or records i [])) ≡ records_text number (take (i + 1) (map told records))
  records_more = grind (arith, many, at_place, records_append number (take i (map told records)) (get_or (map told records) i []), take_more (map told records) i [] behind_them)

  pub records_rest : (rest : List ℕ) × ((records_text number (take i (map told records)) ++ record_text (later number (i + 1)) (told (get_or records i []))) ++ rest ≡ records_text number (map told records))
  records_rest = grind (arith, records_split number (take (i + 1) (map told records)) (drop (i + 1) (map told records)), records_more, take-append-drop (i + 1) (map told records))

-- the record with an index of a store that is shown, after calls that only asked
pub there_in : {W : Type 0} (G : Ghosts W) (store : StoreView) (old new : W) (shown : IsShown G store old) (index place : ℕ) → G.held new ≡ G.held old → index < length shown.shows.read.records → place ≡ area_bytes store.bank.page (take index shown.shows.read.records)
    → (still : IsShown G store new) × ((at : IsRecordAt (held_of G new) store.bank place) × (at.lines ≡ get_or shown.shows.read.records index []))
there_in G store old new shown index place held lt is =
    let still = still_shown G store old new shown held in
    let inside = subst (λ (records : List (List RecordLine)). index < length records) (sym still.1) lt in
    let at = record_there (held_of G new) store.bank place still.0.shows.read index inside (is ∙ ap (λ (records : List (List RecordLine)). area_bytes store.bank.page (take index records)) (sym still.1)) in
    (still.0, (at.0, at.1 ∙ ap (λ (records : List (List RecordLine)). get_or records index []) still.1))

-- lines in order are those of a text
ordered : (bytes bound least : ℕ) (lines : List RecordLine) → wrong_line bound least lines ≡ None → AllByRecursion (HasBytes bytes) lines → AreLines bytes bound least (told lines)
ordered bytes bound least [] none all = tt
ordered bytes bound least (line ∷ lines) none all = grind (arith, nat_tests, ordered bytes bound (line.line + 1) lines)

-- each record of a bank that was read is in order
all_ordered : (held : List ℕ) (bank : BankView) (read : IsRead held bank) → All (λ lines. wrong_line (length bank.newest) 0 lines ≡ None) read.records
all_ordered held bank read k d lt =
    let records = read.records in
    (stands_there held bank (area_bytes bank.page (take k records)) (record { read = read; before = take k records; lines = get_or records k d; after = drop (k + 1) records; are = split_at records k d lt; place_is = refl })).in_order

pub content_is : (held : List ℕ) (store : StoreView) (shows : Shows held store) (from : ℕ) → from < 2 ^ 64 → line_count store.header.directory < 2 ^ 32
    → All (λ lines. All (HasBytes (line_bytes store.header.directory.page)) lines) (drop (behind store.bank.base from) shows.read.records) → IsContent (shipped store shows.read.records from)
content_is held store shows from small few bytes =
    let size = line_bytes store.header.directory.page in let lines = line_count store.header.directory in
    let passed = behind store.bank.base from in let due = drop passed shows.read.records in
    let orders = All-drop (λ (these : List RecordLine). wrong_line (length store.bank.newest) 0 these ≡ None) passed shows.read.records (all_ordered held store.bank shows.read) in
    record {
      some_bytes = omega (arith, line-some store.header.directory.page);
      few_bytes = omega (arith, line-few store.header.directory.page);
      few_lines = few;
      number = small;
      records =
          All-map (λ (these : List ShipLine). AreLines size lines 0 these) told due
          (λ k d lt. ordered size lines 0 (get_or due k d) (ap (λ (n : ℕ). wrong_line n 0 (get_or due k d)) shows.fits.lines ∙ orders k d lt) (recursion_from_All (HasBytes size) (get_or due k d) (bytes k d lt)));
    }
