-- The store at each number of a text, and the bank that commits of records make.
use Rattle.std.specs.Prelude.{◌≡◌, ℕ, ◌+◌, ◌*◌, ◌-◌, ◌%◌, ◌^◌, ◌<◌, ◌≤◌, List, length, take, drop, fold, slice_get, Some, All, []}
use Rattle.lines.specs.Overlay.{overlaid}
use Rattle.standby.specs.Below.{FlatStore, Header, most_lines}
use Rattle.standby.specs.Text.{ShipContent, ShipLine, later}
use Rattle.standby.specs.declared.text.ShipRecord.{ShipRecord}
use Rattle.store.specs.Kept.{BankView, with_line, with_record}
use Rattle.store.specs.Committed.{roomy}

-- the bytes of a store with the lines of a record laid over them
abbrev pub ship_laid : ℕ → List ℕ → List ShipLine → List ℕ
ship_laid line_bytes bytes lines = fold (λ bytes line. overlaid bytes (line.line * line_bytes) line.bytes) bytes lines

-- how many numbers lie behind one up to another, modulo 2^64
abbrev pub behind : ℕ → ℕ → ℕ
behind from number = (number + (2 ^ 64 - from)) % 2 ^ 64

-- the number is among those of a text
abbrev pub IsTextNumber : ShipContent → ℕ → Type 0
IsTextNumber content number = behind content.start number ≤ length content.records

-- the text's records behind a number
abbrev pub due : ShipContent → ℕ → List (List ShipLine)
due content number = drop (behind content.start number) content.records

-- a store with records laid over it in order
abbrev pub laid_by : ℕ → FlatStore → List (List ShipLine) → FlatStore
laid_by line_bytes store records = record { directory = store.directory; bytes = fold (ship_laid line_bytes) store.bytes records }

-- The store at the number that lies so many behind another, for which a store stands: that with the text's records between the two laid over it.
abbrev pub state : ShipContent → ℕ → FlatStore → ℕ → FlatStore
state content number store count = laid_by content.line_bytes store (take count (due content number))

-- the first of these records that has more than so many lines is this one
pub record IsFirstLong (most : ℕ) (records : List (List ShipLine)) (place : ℕ) : Type 0 where
  pub lines : List ShipLine
  pub there : slice_get records place ≡ Some lines
  pub long : most < length lines
  pub before : All (λ these. length these ≤ most) (take place records)

-- the number is that of the first record of a text behind one that has more lines than a store with such a header takes
abbrev pub IsTooLong : Header → ShipContent → (from number : ℕ) → Type 0
IsTooLong header content from number = (place : ℕ) × (number ≡ later from (place + 1)) × IsFirstLong (most_lines header) (due content from) place

-- no record behind a number has more
abbrev pub AllFit : Header → ShipContent → (from : ℕ) → Type 0
AllFit header content from = All (λ lines. length lines ≤ most_lines header) (due content from)

-- the same as the code keeps them
pub record IsLongAt (most : ℕ) (records : List ShipRecord) (place : ℕ) : Type 0 where
  pub kept : ShipRecord
  pub there : slice_get records place ≡ Some kept
  pub long : most < length kept.lines.items
  pub before : All (λ these. length these.lines.items ≤ most) (take place records)

-- the bank with a record of these lines begun
abbrev pub bank_begun : BankView → List ShipLine → BankView
bank_begun bank lines = fold (λ bank line. with_line bank line.line line.bytes) (record bank { begun = Some [] }) lines

-- the bank behind a commit of this record: it is added where it fits, and else behind a checkpoint
abbrev pub bank_with : BankView → List ShipLine → BankView
bank_with bank lines = with_record (roomy (bank_begun bank lines))

-- the bank behind commits of these records, one after another, and no other checkpoint
abbrev pub bank_behind : BankView → List (List ShipLine) → BankView
bank_behind bank records = fold bank_with bank records
