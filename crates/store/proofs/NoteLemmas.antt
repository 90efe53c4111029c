-- The newest places of lines, as records are noted.
use Rattle.store.proofs.Common.{◌≡◌, ℕ, ◌+◌, ◌*◌, ◌-◌, ◌<◌, ◌≤◌, List, [], ◌∷◌, length, take, drop, ◌∙◌, ap, arith, Option, None, Some, nat_tests, drop-drop, take_rest, big_number, overlaid, PageSize, line_bytes, entry_bytes, RecordLine, lines_from, wrong_line, noted, ◌++◌, refl, sym, append_assoc, take_at, drop_at, length-take-le, IfSome, All-nil, All-cons, All-append, All-take, All-drop, AreNewestWithin, ◌⊎◌, get_or, subst, replicate, option_or, cases_eq, get_or-replicate, length-replicate, All-head, All-tail, length-overlaid, place_in, newest_place, AreNewest, IsNowhere, true, false, ◌==◌, ◌≢◌, if◌then◌else◌, fold, All, overlaid_within, overlaid_before, overlaid_behind, option_or-assoc, suc, nat_le, nat_lt, ◌&&◌, slice_index, slice_get-get_or, NewestLaw}

module _ {X : Type 0} (xs : List X) (at : ℕ) (part : List X) (within : at ≤ length xs) where
  pub take-overlaid : take at (overlaid xs at part) ≡ take at xs
  take-overlaid = grind (arith, nat_tests, append_assoc, take_at, length-take-le)

  pub drop-overlaid : drop at (overlaid xs at part) ≡ part ++ drop (at + length part) xs
  drop-overlaid = grind (arith, nat_tests, append_assoc, drop_at, length-take-le)

  pub behind-overlaid : drop (at + length part) (overlaid xs at part) ≡ drop (at + length part) xs
  behind-overlaid =
      sym (drop-drop (length part) at (overlaid xs at part)) ∙ ap (λ (these : List X). drop (length part) these) drop-overlaid ∙ drop_at part (drop (at + length part) xs) (length part) refl

-- of lines in order the first lies below the bound, and the rest are in order
pub record IsFirst (bound line : ℕ) (lines : List RecordLine) : Type 0 where
  pub below : line < bound
  pub rest : wrong_line bound (line + 1) lines ≡ None

pub first_in_order : (bound least : ℕ) (line : RecordLine) (lines : List RecordLine) → wrong_line bound least (line ∷ lines) ≡ None → IsFirst bound line.line lines
first_in_order bound least line lines none = record { below = grind (arith, nat_tests); rest = grind (arith, nat_tests) }

pub low_of : (bound least : ℕ) (line : RecordLine) (lines : List RecordLine) → wrong_line bound least (line ∷ lines) ≡ None → least ≤ line.line
low_of bound least line lines none = grind (arith, nat_tests)

-- the lines from one on, of so many that lie at a place and whose bytes begin at an offset of these
abbrev pub lines_after : (page : PageSize) (count i at from : ℕ) → List ℕ → List RecordLine
lines_after page count i at from bytes = lines_from page (count - i) (at + entry_bytes page * i) (drop (from + entry_bytes page * i) bytes)

module _ (page : PageSize) (count i at from line : ℕ) (bytes : List ℕ) (more : i < count) (read : line ≡ big_number 4 (drop (from + entry_bytes page * i) bytes)) where
  begins : lines_after page count i at from bytes
      ≡ record { line = line; at = at + entry_bytes page * i; bytes = take (line_bytes page) (drop 4 (drop (from + entry_bytes page * i) bytes)) } ∷ lines_after page count (i + 1) at from bytes
  begins =
      let fuel : count - i ≡ suc (count - (i + 1)) = omega arith in
      let rest : drop (entry_bytes page) (drop (from + entry_bytes page * i) bytes) ≡ drop (from + entry_bytes page * (i + 1)) bytes = grind (arith, drop-drop) in
      let place : at + entry_bytes page * i + entry_bytes page ≡ at + entry_bytes page * (i + 1) = omega arith in
      cc (fuel, rest, place)

  pub in_order : (bound least : ℕ) → wrong_line bound least (lines_after page count i at from bytes) ≡ None → IsFirst bound line (lines_after page count (i + 1) at from bytes)
  in_order bound least ordered = grind (arith, nat_tests, first_in_order, begins)

  pub wrong_here : (bound least : ℕ) → nat_le least line && nat_lt line bound ≡ false → wrong_line bound least (lines_after page count i at from bytes) ≡ Some (at + entry_bytes page * i)
  wrong_here bound least wrong = ap (wrong_line bound least) begins ∙ rw wrong refl

  pub right_here : (bound least : ℕ) → nat_le least line && nat_lt line bound ≡ true
      → wrong_line bound least (lines_after page count i at from bytes) ≡ wrong_line bound (line + 1) (lines_after page count (i + 1) at from bytes)
  right_here bound least right = ap (wrong_line bound least) begins ∙ rw right refl

  pub noted_here : (newest : List (Option ℕ)) (place : ℕ) → place ≡ at + entry_bytes page * i + 4
      → noted newest (lines_after page count i at from bytes) ≡ noted (overlaid newest line (Some place ∷ [])) (lines_after page count (i + 1) at from bytes)
  noted_here newest place is = ap (noted newest) begins ∙ ap (λ (n : ℕ). noted (overlaid newest line (Some n ∷ [])) (lines_after page count (i + 1) at from bytes)) (sym is)

-- all lines of a record are left at its start
pub all_left : (page : PageSize) (count at from : ℕ) (bytes : List ℕ) → lines_after page count 0 at from bytes ≡ lines_from page count at (drop from bytes)
all_left page count at from bytes = grind (arith, nat_tests)

-- a slice from a place to the end is what lies there
pub read_line : (page : PageSize) (body : List ℕ) (from i line : ℕ) → line ≡ big_number 4 (take (length body - (10 + from)) (drop (10 + from) body)) → from ≡ entry_bytes page * i → line ≡ big_number 4 (drop (10 + entry_bytes page * i) body)
read_line page body from i line is same =
    is ∙ ap (λ (these : List ℕ). big_number 4 these) (take_rest body (10 + from)) ∙ ap (λ (n : ℕ). big_number 4 (drop (10 + n) body)) same

abbrev IsIn : PageSize → ℕ → Option ℕ → Type 0
IsIn page end place = IfSome place (λ at. at + line_bytes page ≤ end)

-- one place more
pub within-overlaid : (page : PageSize) (end line at : ℕ) (newest : List (Option ℕ)) → at + line_bytes page ≤ end → AreNewestWithin page end newest → AreNewestWithin page end (overlaid newest line (Some at ∷ []))
within-overlaid page end line at newest fits are =
    All-append (IsIn page end) (take line newest ++ Some at ∷ []) (drop (line + length (Some at ∷ [])) newest)
    (All-append (IsIn page end) (take line newest) (Some at ∷ []) (All-take (IsIn page end) line newest are) (All-cons (IsIn page end) (Some at) [] fits (All-nil (IsIn page end))))
    (All-drop (IsIn page end) (line + length (Some at ∷ [])) newest are)

-- a byte that was written is there
pub byte_written : (held : List ℕ) (at byte : ℕ) → at < length held → slice_index (overlaid held at (byte ∷ [])) at ≡ byte
byte_written held at byte within =
    let none : at - at ≡ 0 = omega arith in
    overlaid_within held at (byte ∷ []) at 0 (omega (arith, within)) (omega arith) (omega arith) ∙ ap (slice_index (byte ∷ [])) none

pub or_none : (a : Option ℕ) → option_or a None ≡ a
or_none a = grind (arith, nat_tests)

pub last_of : (a b : Option ℕ) (place : ℕ) → option_or a b ≡ Some place → (a ≡ Some place) ⊎ (b ≡ Some place)
last_of a b place is = grind (arith, nat_tests)

-- lines of a store with so many
abbrev pub AreBelow : ℕ → List RecordLine → Type 0
AreBelow bound [] = Unit {0}
AreBelow bound (line ∷ lines) = (line.line < bound) × AreBelow bound lines

abbrev pub AllBelow : ℕ → List (List RecordLine) → Type 0
AllBelow bound [] = Unit {0}
AllBelow bound (lines ∷ records) = AreBelow bound lines × AllBelow bound records

pub below_in_order : (bound least : ℕ) (lines : List RecordLine) → wrong_line bound least lines ≡ None → AreBelow bound lines
below_in_order bound least [] none = tt
below_in_order bound least (line ∷ lines) none = let first = first_in_order bound least line lines none in (first.below, below_in_order bound (line.line + 1) lines first.rest)

pub length-noted : (newest : List (Option ℕ)) (lines : List RecordLine) → AreBelow (length newest) lines → length (noted newest lines) ≡ length newest
length-noted newest [] below = refl
length-noted newest (line ∷ lines) below =
    let long : length (overlaid newest line.line (Some (line.at + 4) ∷ [])) ≡ length newest = length-overlaid newest line.line (Some (line.at + 4) ∷ []) (omega (arith, below.0)) in
    length-noted (overlaid newest line.line (Some (line.at + 4) ∷ [])) lines (subst (λ (n : ℕ). AreBelow n lines) (sym long) below.1) ∙ long

-- a place that is noted is that in the record, or what it was
pub noted_place : (newest : List (Option ℕ)) (lines : List RecordLine) (k : ℕ) → AreBelow (length newest) lines → k < length newest → get_or (noted newest lines) k None ≡ option_or (place_in k lines) (get_or newest k None)
noted_place newest [] k below within = refl
noted_place newest (line ∷ lines) k below within =
    let long : length (overlaid newest line.line (Some (line.at + 4) ∷ [])) ≡ length newest = length-overlaid newest line.line (Some (line.at + 4) ∷ []) (omega (arith, below.0)) in
    cc (noted_place (overlaid newest line.line (Some (line.at + 4) ∷ [])) lines k (subst (λ (n : ℕ). AreBelow n lines) (sym long) below.1) (omega (arith, long)), here, option_or-assoc (place_in k lines) (if line.line == k then Some (line.at + 4) else None) (get_or newest k None))
  where
    here : get_or (overlaid newest line.line (Some (line.at + 4) ∷ [])) k None ≡ option_or (if line.line == k then Some (line.at + 4) else None) (get_or newest k None)
    here = grind (arith, nat_tests, cases_eq, overlaid_within, overlaid_before, overlaid_behind)

pub noted_places : (newest : List (Option ℕ)) (records : List (List RecordLine)) (k : ℕ) → AllBelow (length newest) records → k < length newest → get_or (fold noted newest records) k None ≡ option_or (newest_place k records) (get_or newest k None)
noted_places newest [] k below within = refl
noted_places newest (lines ∷ records) k below within = grind (arith, nat_tests, noted_places (noted newest lines) records k, length-noted, noted_place, option_or-assoc)

-- from nothing noted
pub are_newest : (bound : ℕ) (newest : List (Option ℕ)) (records : List (List RecordLine)) → AllBelow bound records → newest ≡ fold noted (replicate bound None) records → length newest ≡ bound → AreNewest newest records
are_newest bound newest records below is long k within = grind (arith, nat_tests, length-replicate, noted_places, get_or-replicate, or_none)

-- with one record more
place_more : (k : ℕ) (records : List (List RecordLine)) (lines : List RecordLine) → newest_place k (records ++ lines ∷ []) ≡ option_or (place_in k lines) (newest_place k records)
place_more k [] lines = sym (or_none (place_in k lines))
place_more k (first ∷ records) lines = ap (λ (place : Option ℕ). option_or place (place_in k first)) (place_more k records lines) ∙ sym (option_or-assoc (place_in k lines) (newest_place k records) (place_in k first))

pub newest_more : (newest : List (Option ℕ)) (records : List (List RecordLine)) (lines : List RecordLine) → AreNewest newest records → AreBelow (length newest) lines → AreNewest (noted newest lines) (records ++ lines ∷ [])
newest_more newest records lines are below k within = grind (arith, nat_tests, length-noted, noted_place, place_more)

-- no place is noted of a line exactly where no record has it
or_left : (a b : Option ℕ) → option_or a b ≡ None → a ≡ None
or_left a b none = grind (arith, nat_tests)

or_right : (a b : Option ℕ) → option_or a b ≡ None → b ≡ None
or_right a b none = grind (arith, nat_tests)

no_place : (k : ℕ) (lines : List RecordLine) → place_in k lines ≡ None → All (λ one. one.line ≢ k) lines
no_place k [] none = All-nil (λ (one : RecordLine). one.line ≢ k)
no_place k (line ∷ lines) none = grind (arith, nat_tests, no_place k lines, All-cons, or_right, or_left)

has_no_place : (k : ℕ) (lines : List RecordLine) → All (λ one. one.line ≢ k) lines → place_in k lines ≡ None
has_no_place k [] none = refl
has_no_place k (line ∷ lines) none =
    let other = All-head (λ (one : RecordLine). one.line ≢ k) line lines none in
    let no : (line.line == k) ≡ false = grind (arith, nat_tests) in
    ap (λ (place : Option ℕ). option_or place (if line.line == k then Some (line.at + 4) else None)) (has_no_place k lines (All-tail (λ (one : RecordLine). one.line ≢ k) line lines none)) ∙ rw no refl

pub nowhere : (k : ℕ) (records : List (List RecordLine)) → newest_place k records ≡ None → IsNowhere k records
nowhere k [] none = All-nil (λ (lines : List RecordLine). All (λ one. one.line ≢ k) lines)
nowhere k (lines ∷ records) none =
    All-cons (λ (lines : List RecordLine). All (λ one. one.line ≢ k) lines) lines records (no_place k lines (or_right (newest_place k records) (place_in k lines) none)) (nowhere k records (or_left (newest_place k records) (place_in k lines) none))

pub is_nowhere : (k : ℕ) (records : List (List RecordLine)) → IsNowhere k records → newest_place k records ≡ None
is_nowhere k [] none = refl
is_nowhere k (lines ∷ records) none = cc (is_nowhere k records (All-tail (λ (lines : List RecordLine). All (λ one. one.line ≢ k) lines) lines records none), has_no_place k lines (All-head (λ (lines : List RecordLine). All (λ one. one.line ≢ k) lines) lines records none))

pub newest_law : NewestLaw
newest_law held bank read k within = (
  λ none. nowhere k read.records (let same : Some None ≡ Some (get_or bank.newest k None) = sym none ∙ slice_get-get_or bank.newest k None within in let place : None ≡ get_or bank.newest k None = cc in sym (read.newest k within) ∙ sym place),
  λ none. slice_get-get_or bank.newest k None within ∙ ap (λ (place : Option ℕ). let one : Option (Option ℕ) = Some place in one) (read.newest k within ∙ is_nowhere k read.records none),
)
