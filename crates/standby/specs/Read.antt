-- How a text is read: what may stand behind the lines so far, and the first line that may not.
use Rattle.std.specs.Prelude.{◌≡◌, ◌≢◌, ◌⊎◌, ℕ, ◌+◌, ◌≤◌, ◌==◌, List, [], ◌∷◌, ◌++◌, length, count_by, MatchOption, Option}
use Rattle.std.specs.List.{AllByRecursion}
use Rattle.standby.specs.Text.{ShipContent, IsContent, IsPacked, ShipLine, AreLines, ship_text, lines_text, record_of, records_text, closing_line, later}
use Rattle.standby.specs.declared.text.ShipFault.{ShipFault}
use Rattle.standby.specs.declared.text.ShipFault.TheVariants.{Bad, Memory}
use Rattle.standby.specs.declared.text.ShipRecord.{ShipRecord}

-- what was found is one, by what is read of it; or none was found, and there is none
abbrev pub ReadsOne : {T U : Type 0} → Option T → (T → U) → (U → Type 0) → Type 0
ReadsOne {U = U} found read IsOne = MatchOption found ((one : U) → ¬ (IsOne one)) (λ one. IsOne (read one))

-- bytes that are no line, or whole lines
abbrev pub AreWhole : List ℕ → Type 0
AreWhole bytes = (bytes ≡ []) ⊎ ((front : List ℕ) × (bytes ≡ front ++ 10 ∷ []))

-- how many lines end in bytes
abbrev pub feeds : List ℕ → ℕ
feeds bytes = count_by (λ byte. byte == 10) bytes

-- some ship text is the first bytes, followed by the second
pub record IsTextInTwo (front behind : List ℕ) : Type 0 where
  pub content : ShipContent
  pub is_content : IsContent content
  pub text_is : ship_text content ≡ front ++ behind

-- The text is no ship text. The lines before this one, counted from 1, are the first lines of one, and none has the next line that the text has, if it
-- has one, behind them.
pub record IsFirstBad (text : List ℕ) (line : ℕ) : Type 0 where
  pub front : List ℕ
  pub behind : List ℕ
  pub text_is : text ≡ front ++ behind
  pub whole : AreWhole front
  pub place : line ≡ feeds front + 1
  pub more : List ℕ
  pub before : IsTextInTwo front more
  pub bad : (first rest others : List ℕ) → behind ≡ first ++ 10 ∷ rest → ¬ (IsTextInTwo front (first ++ 10 ∷ others))
  pub none : (content : ShipContent) → IsContent content → text ≢ ship_text content

-- A text may go on so: with so many lines of a record, from a least number on, the records behind this number, and the last line.
pub record Tail (bytes bound number owed least : ℕ) (text : List ℕ) : Type 0 where
  pub lines : List ShipLine
  pub records : List (List ShipLine)
  pub many : length lines ≡ owed
  pub are : AreLines bytes bound least lines
  pub each : AllByRecursion (λ lines. AreLines bytes bound 0 lines) records
  pub text_is : text ≡ lines_text lines ++ (records_text number records ++ closing_line (later number (length records)))

-- These are the first lines of a ship text, so many, of a store with so many lines of so many bytes; and what may stand behind them are such tails.
pub record AreFirstLines (bytes bound : ℕ) (front : List ℕ) (read number owed least : ℕ) : Type 0 where
  pub whole : AreWhole front
  pub lines : read ≡ feeds front
  pub goes : (behind : List ℕ) → Tail bytes bound number owed least behind → IsTextInTwo front behind
  pub came : (behind : List ℕ) → IsTextInTwo front behind → Tail bytes bound number owed least behind

-- why a text is no ship text: at its first bad line; or memory was out, of which nothing is said
abbrev pub IsReadFault : List ℕ → ShipFault → Type 0
IsReadFault text (Bad line) = IsFirstBad text line
IsReadFault text Memory = Unit {0}

-- a text begins with the lines of a record, so many, and this stands behind them
pub record IsReadRecord (bytes bound count : ℕ) (text : List ℕ) (kept : ShipRecord) (behind : List ℕ) : Type 0 where
  pub packed : IsPacked bytes kept
  pub many : length kept.lines.items ≡ count
  pub are : AreLines bytes bound 0 (record_of bytes kept)
  pub text_is : text ≡ lines_text (record_of bytes kept) ++ behind
  pub shorter : count + length behind ≤ length text
