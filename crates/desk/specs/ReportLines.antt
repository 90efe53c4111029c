-- The lines of a report, and their bytes.
use Rattle.std.specs.Prelude.{ℕ, List, [], ◌∷◌, ◌++◌, map, codes, decimal}
use Rattle.std.specs.List.{join_with_byte}
use Rattle.byteorder.specs.Endian.{big_bytes}
use Rattle.hex.specs.Hex.{encode_lower}

-- a line of a report
pub data ReportLine : Type 0 where
  Open : (number : ℕ) → ReportLine
  Begin : (activation : ℕ) (name : List ℕ) → ReportLine
  Busy : (activation : ℕ) (name : List ℕ) → ReportLine
  NoSegment : (activation : ℕ) (name : List ℕ) (segment : ℕ) → ReportLine
  Idle : (activation : ℕ) → ReportLine
  Turn : (activation ran pages locks : ℕ) → ReportLine
  Cycle : (members : List ℕ) → ReportLine
  Victim : (activation : ℕ) → ReportLine
  Commit : (activation number steps : ℕ) (out : List ℕ) → ReportLine
  Check : (activation code address : ℕ) → ReportLine
  Wait : (activation : ℕ) (holders : List ℕ) → ReportLine
  Journal : (activation lines limit : ℕ) → ReportLine
  Disk : (activation : ℕ) → ReportLine
  Doubt : (activation number : ℕ) → ReportLine
  Closed : ReportLine
  Stored : (number : ℕ) → ReportLine
  Lost : (activation : ℕ) → ReportLine
  Left : (activation : ℕ) → ReportLine
  End : (number : ℕ) → ReportLine

-- printed bytes in hexadecimal, or a dash
abbrev pub printed : List ℕ → List ℕ
printed [] = codes "-"
printed (byte ∷ bytes) = encode_lower (byte ∷ bytes)

-- words with a space between each two, and a line feed
abbrev pub spaced : List (List ℕ) → List ℕ
spaced words = join_with_byte 32 words ++ 10 ∷ []

-- the bytes of a line
abbrev pub line_text : ReportLine → List ℕ
line_text (Open number) = spaced (codes "open" ∷ decimal number ∷ [])
line_text (Begin activation name) = spaced (codes "begin" ∷ decimal activation ∷ name ∷ [])
line_text (Busy activation name) = spaced (codes "busy" ∷ decimal activation ∷ name ∷ [])
line_text (NoSegment activation name segment) = spaced (codes "nosegment" ∷ decimal activation ∷ name ∷ decimal segment ∷ [])
line_text (Idle activation) = spaced (codes "idle" ∷ decimal activation ∷ [])
line_text (Turn activation ran pages locks) =
    spaced (codes "turn" ∷ decimal activation ∷ codes "ran" ∷ decimal ran ∷ codes "page" ∷ decimal pages ∷ codes "lock" ∷ decimal locks ∷ [])
line_text (Cycle members) = spaced (codes "cycle" ∷ map decimal members)
line_text (Victim activation) = spaced (codes "victim" ∷ decimal activation ∷ [])
line_text (Commit activation number steps out) =
    spaced (codes "commit" ∷ decimal activation ∷ codes "number" ∷ decimal number ∷ codes "steps" ∷ decimal steps ∷ codes "out" ∷ printed out ∷ [])
line_text (Check activation code address) =
    spaced (codes "check" ∷ decimal activation ∷ codes "code" ∷ decimal code ∷ codes "at" ∷ encode_lower (big_bytes 4 address) ∷ [])
line_text (Wait activation holders) = spaced (codes "wait" ∷ decimal activation ∷ codes "for" ∷ map decimal holders)
line_text (Journal activation lines limit) =
    spaced (codes "journal" ∷ decimal activation ∷ codes "lines" ∷ decimal lines ∷ codes "limit" ∷ decimal limit ∷ [])
line_text (Disk activation) = spaced (codes "disk" ∷ decimal activation ∷ [])
line_text (Doubt activation number) = spaced (codes "doubt" ∷ decimal activation ∷ codes "number" ∷ decimal number ∷ [])
line_text Closed = spaced (codes "closed" ∷ [])
line_text (Stored number) = spaced (codes "stored" ∷ decimal number ∷ [])
line_text (Lost activation) = spaced (codes "lost" ∷ decimal activation ∷ [])
line_text (Left activation) = spaced (codes "left" ∷ decimal activation ∷ [])
line_text (End number) = spaced (codes "end" ∷ decimal number ∷ [])
