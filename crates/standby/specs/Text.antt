-- The text of shipped records.
use Rattle.std.specs.Prelude.{◌≡◌, ℕ, ◌+◌, ◌*◌, ◌%◌, ◌^◌, ◌<◌, ◌≤◌, List, [], ◌∷◌, ◌++◌, length, map, take, drop, codes, decimal, All}
use Rattle.std.specs.List.{flat_map}
use Rattle.hex.specs.Hex.{encode_lower}
use Rattle.store_format.specs.Bank.{RecordLine}
use Rattle.standby.specs.declared.text.Ship.{Ship}
use Rattle.standby.specs.declared.text.ShipRecord.{ShipRecord}

-- a line of a record: its number and its bytes
pub record ShipLine : Type 0 where
  pub line : ℕ
  pub bytes : List ℕ

-- what a ship text holds: the bytes of a line of the store, the number of its lines, the number from which the records go on, and these
pub record ShipContent : Type 0 where
  pub line_bytes : ℕ
  pub lines : ℕ
  pub start : ℕ
  pub records : List (List ShipLine)

-- the number behind a number
abbrev pub next : ℕ → ℕ
next number = (number + 1) % 2 ^ 64

-- the number behind so many more
abbrev pub later : ℕ → ℕ → ℕ
later number count = (number + count) % 2 ^ 64

-- the lines of a text, and the one that tells of a record which is kept
abbrev pub head_line : (line_bytes lines start : ℕ) → List ℕ
head_line line_bytes lines start = codes "ship " ++ decimal line_bytes ++ codes " " ++ decimal lines ++ codes " " ++ decimal start ++ codes "\n"

abbrev pub record_line : (number count : ℕ) → List ℕ
record_line number count = codes "record " ++ decimal number ++ codes " " ++ decimal count ++ codes "\n"

abbrev pub line_line : ℕ → List ℕ → List ℕ
line_line line bytes = codes "line " ++ decimal line ++ codes " " ++ encode_lower bytes ++ codes "\n"

abbrev pub closing_line : ℕ → List ℕ
closing_line number = codes "end " ++ decimal number ++ codes "\n"

abbrev pub kept_line : ℕ → List ℕ
kept_line number = codes "kept " ++ decimal number ++ codes "\n"

-- the lines of a record
abbrev pub lines_text : List ShipLine → List ℕ
lines_text lines = flat_map (λ line. line_line line.line line.bytes) lines

-- the record with this number
abbrev pub record_text : ℕ → List ShipLine → List ℕ
record_text number lines = record_line number (length lines) ++ lines_text lines

-- the records behind this number
abbrev pub records_text : ℕ → List (List ShipLine) → List ℕ
records_text number [] = []
records_text number (lines ∷ records) = record_text (next number) lines ++ records_text (next number) records

-- The text that holds this: its first line, the records, and the last number.
abbrev pub ship_text : ShipContent → List ℕ
ship_text content =
    head_line content.line_bytes content.lines content.start ++ records_text content.start content.records ++ closing_line (later content.start (length content.records))

-- the numbers of lines ascend from a least one on and lie below a bound, and each line has so many bytes
abbrev pub AreLines : (line_bytes bound least : ℕ) → List ShipLine → Type 0
AreLines line_bytes bound least [] = Unit {0}
AreLines line_bytes bound least (line ∷ lines) =
    (least ≤ line.line) × (line.line < bound) × (length line.bytes ≡ line_bytes) × All (λ byte. byte < 256) line.bytes × AreLines line_bytes bound (line.line + 1) lines

-- A text may hold this: the numbers are in their ranges, and so are the lines of each record.
pub record IsContent (content : ShipContent) : Type 0 where
  pub some_bytes : 1 ≤ content.line_bytes
  pub few_bytes : content.line_bytes ≤ 65535
  pub few_lines : content.lines < 2 ^ 32
  pub number : content.start < 2 ^ 64
  pub records : All (λ lines. AreLines content.line_bytes content.lines 0 lines) content.records

-- lines by their numbers and by their bytes, which stand one line behind another
abbrev pub parted : ℕ → List ℕ → List ℕ → List ShipLine
parted line_bytes [] bytes = []
parted line_bytes (line ∷ lines) bytes = record { line = line; bytes = take line_bytes bytes } ∷ parted line_bytes lines (drop line_bytes bytes)

-- what a record is, and what a value of the code holds
abbrev pub record_of : ℕ → ShipRecord → List ShipLine
record_of line_bytes kept = parted line_bytes kept.lines.items kept.bytes.items

abbrev pub ship_content : Ship → ShipContent
ship_content ship = record { line_bytes = ship.line_bytes; lines = ship.lines; start = ship.start; records = map (record_of ship.line_bytes) ship.records.items }

-- each line of a record has its bytes
abbrev pub IsPacked : ℕ → ShipRecord → Type 0
IsPacked line_bytes kept = length kept.bytes.items ≡ line_bytes * length kept.lines.items

-- Some text holds what the value does.
pub record IsShip (ship : Ship) : Type 0 where
  pub content : IsContent (ship_content ship)
  pub packed : All (IsPacked ship.line_bytes) ship.records.items

-- the text holds what the value does
pub record IsTextOf (text : List ℕ) (ship : Ship) : Type 0 where
  pub is_ship : IsShip ship
  pub bytes : text ≡ ship_text (ship_content ship)

-- lines of a bank's record, without their places
abbrev pub told : List RecordLine → List ShipLine
told lines = map (λ one. record { line = one.line; bytes = one.bytes }) lines

-- a text holds at most one content
abbrev pub HoldsOne : Type 0
HoldsOne = (one two : ShipContent) → IsContent one → IsContent two → ship_text one ≡ ship_text two → one ≡ two
