-- The labels as they are looked up.
use Rattle.std.specs.Prelude.{◌≡◌, ℕ, ℤ, pos, ◌*◌, ◌%◌, ◌^◌, ◌<◌, IfSome, slice_get, slice_index_or, length, take, sum_by, option_and_then, ◌+◌, nat_lt, false, if◌then◌else◌, Bool, List, [], ◌∷◌, Option, Some, None, Result, MatchResult, Ok, Err}
use Rattle.romp_asm.specs.Below.{BTreeMap, fold, get_by, option_map, option_map_or, option_or, Statement}
use denote.Ref.{Bor}
use Rattle.std.specs.Cmp.Lexicographic.{slice_cmp}
use Rattle.std.specs.Ordering.{nat_cmp, ordering_then}
use Rattle.romp_asm.specs.Size.{size_of, total_size}
use Rattle.romp_asm.specs.Value.{is_labelled, knowns_of}
use Rattle.romp_asm.specs.declared.value.Place.{Place}
use Rattle.romp_asm.specs.declared.value.Scope.{Scope}
use Rattle.romp_asm.specs.declared.value.LabelTable.{LabelTable}
use Rattle.asm_parse.specs.declared.statement.Operand.{Operand}
use Rattle.arrayvec.specs.ArrayVec.{ArrayVec}
use Rattle.romp_asm.specs.declared.value.Known.{Known}

-- a number of a word's bytes, by which most words differ
abbrev pub word_number : List ℕ → ℕ
word_number word = fold (λ number byte. (number * 0x100000001B3 % 2 ^ 64 + byte) % 2 ^ 64) 0 word

-- a word's number and the word
abbrev pub LabelKey : Type 0
LabelKey = ℕ × Bor (List ℕ)

-- what a table has at a word
abbrev pub found_in : {V : Type 0} → BTreeMap LabelKey V → List ℕ → Option V
found_in labels word = get_by (λ key. ordering_then (nat_cmp (word_number word) key.0) (slice_cmp nat_cmp word key.1.now)) labels

-- where a word stands in the source that gives it to the others
abbrev pub given_in : Scope → List ℕ → Option Place
given_in scope word =
    option_and_then (λ source. option_and_then (λ table. found_in table.labels word) (slice_get scope.tables.now source))
    (found_in scope.givers.now word)

-- the addresses of the labels that the statements of a source may name
abbrev pub addresses_in : Scope → List ℕ → Option ℤ
addresses_in scope word = option_map (λ place. place.address) (option_or (found_in scope.own.now.labels word) (given_in scope word))

-- whether a place is that of an earlier statement than the one with this number
abbrev pub stands_before : ℕ → Option Place → Bool
stands_before index (Some place) = nat_lt place.statement index
stands_before index None = false

-- whether a statement's label stands before the statement with this number
abbrev pub repeated_in : BTreeMap LabelKey Place → ℕ → Statement → Bool
repeated_in labels index statement = option_map_or (λ label. stands_before index (found_in labels label)) statement.label false

-- a statement's label, if it has one, is in no table yet
abbrev pub IsLabelNew : BTreeMap LabelKey Place → Statement → Type 0
IsLabelNew labels statement = IfSome statement.label (λ label. found_in labels label ≡ None)

-- the labels of so many of the first statements stand nowhere before them
abbrev pub AreAlone : BTreeMap LabelKey Place → List Statement → ℕ → Type 0
AreAlone labels statements count =
    (index : ℕ) (statement : Statement) → index < count → statement ≡ slice_index_or statements index statement → repeated_in labels index statement ≡ false

-- where a label stands after one statement more: where it stood, or else at that statement if it has the label
abbrev pub label_noted : Option Place → Bool → Place → Option Place
label_noted (Some before) labelled place = Some before
label_noted None labelled place = if labelled then Some place else None

-- the first statement that has a label, and its address, where the first of these statements has this number and stands at an address
unfoldable pub place_from : ℕ → ℕ → List Statement → List ℕ → Option Place
place_from index at [] word = None
place_from index at (statement ∷ statements) word =
    if is_labelled word statement then Some (record { statement = index; address = pos at })
    else place_from (index + 1) (at + size_of statement.body) statements word

-- the first statement that has a label, and its address
abbrev pub label_place : List Statement → List ℕ → Option Place
label_place statements word = place_from 0 0 statements word

-- the table has the labels of statements, of which the first stands at an address
pub record IsTable (table : LabelTable) (start : ℕ) (statements : List Statement) : Type 0 where
  pub found : (word : List ℕ) → found_in table.labels word ≡ place_from 0 start statements word
  pub alone : table.repeats ≡ false → AreAlone table.labels statements (length statements)
  pub end : table.end ≡ start + total_size statements

-- there is a table of each source, which stand one behind the other
pub record AreTables (tables : List LabelTable) (sources : List (List Statement)) : Type 0 where
  pub many : length tables ≡ length sources
  pub each : (source : ℕ) (table : LabelTable) → source < length tables → table ≡ slice_index_or tables source table → IsTable table (sum_by total_size (take source sources)) (slice_index_or sources source [])

-- a table has the labels of statements
pub record HasLabelsOf (statements : List Statement) (table : LabelTable) : Type 0 where
  pub found : (word : List ℕ) → found_in table.labels word ≡ label_place statements word
  pub alone : table.repeats ≡ false → AreAlone table.labels statements (length statements)

-- the label of a statement was noted, where it has one that stood nowhere
abbrev pub NotesLabel : Statement → Place → (old new : BTreeMap LabelKey Place) → Type 0
NotesLabel statement place old new = (word : List ℕ) → found_in new word ≡ label_noted (found_in old word) (is_labelled word statement) place

-- what operands are known to be, or the kind of their fault
abbrev pub AreKnowns : Scope → List Operand → Result (ArrayVec Known) ℕ → Type 0
AreKnowns scope operands result =
    MatchResult result (λ knowns. knowns_of (addresses_in scope) operands ≡ Ok knowns.items) (λ kind. knowns_of (addresses_in scope) operands ≡ Err kind)
