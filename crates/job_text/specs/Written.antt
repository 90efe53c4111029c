-- The text that a job is written as.
use Rattle.std.specs.Prelude.{ℕ, ◌+◌, ◌<◌, slice_index, EachIndex, List, [], ◌∷◌, ◌++◌, map, codes, decimal, slice_index_or, if◌then◌else◌, Bool, Option, Some, None, Vec, ◌≡◌, Ok, length, ◌^◌}
use Rattle.std.specs.Int.{from_be_bytes, w32}
use Rattle.job_text.specs.Below.{Begin, Checkpoint, Close, Colon, Comma, Crash, Event, flat_map, Minus, Number, Open, Parts, Plus, Token, Turn, Word, zip, ArrayVec, parts_of}
use Rattle.flat_machine.specs.declared.machine.Window.{Window}
use Rattle.job_text.specs.Grammar.{Content, job_of}
use Rattle.flat_machine.specs.declared.machine.Program.{Program}
use Rattle.std.specs.declared.alloc.Global.{Global}

-- a token: a word's bytes, a number in decimal, or the one character
abbrev pub token_text : Token → List ℕ
token_text (Word word) = word
token_text (Number number) = decimal number
token_text Comma = codes ","
token_text Open = codes "("
token_text Close = codes ")"
token_text Colon = codes ":"
token_text Plus = codes "+"
token_text Minus = codes "-"

-- a token behind others: a comma right behind them, any other behind a space
abbrev pub behind_text : Token → List ℕ
behind_text Comma = token_text Comma
behind_text token = 32 ∷ token_text token

-- the tokens of a line, without its line feed
abbrev pub tokens_text : List Token → List ℕ
tokens_text [] = []
tokens_text (first ∷ others) = token_text first ++ flat_map behind_text others

-- a line with its line feed
abbrev pub token_line : List Token → List ℕ
token_line tokens = tokens_text tokens ++ 10 ∷ []

-- a word, and a number behind it
abbrev pub number_line : List ℕ → ℕ → List Token
number_line word number = Word word ∷ Number number ∷ []

-- `r`, or `rw` where a window is also to write
abbrev pub access_text : Bool → List ℕ
access_text write = if write then codes "rw" else codes "r"

-- `.window I, S, r` or `rw`
abbrev pub window_tokens : ℕ → Window → List Token
window_tokens register window =
    Word (codes ".window") ∷ Number register ∷ Comma ∷ Number window.segment ∷ Comma ∷ Word (access_text window.write) ∷ []

-- a line for each window that is there, where the first place is that of this register
abbrev pub windows_tokens : ℕ → List (Option Window) → List (List Token)
windows_tokens register [] = []
windows_tokens register (None ∷ windows) = windows_tokens (register + 1) windows
windows_tokens register (Some window ∷ windows) = window_tokens register window ∷ windows_tokens (register + 1) windows

-- a `.word` for each four bytes, and a `.byte` for each that is left
abbrev pub image_lines : List ℕ → List (List Token)
image_lines (a ∷ b ∷ c ∷ d ∷ bytes) = number_line (codes ".word") (from_be_bytes w32 (a ∷ b ∷ c ∷ d ∷ [])) ∷ image_lines bytes
image_lines bytes = map (number_line (codes ".byte")) bytes

-- `end`
abbrev pub end_line : List Token
end_line = Word (codes "end") ∷ []

-- the entry address, the windows and the image of a program, and its `end`
abbrev pub source_lines : Parts → List (List Token)
source_lines parts =
    number_line (codes ".entry") parts.entry ∷ windows_tokens 1 parts.windows ++ image_lines parts.image ++ end_line ∷ []

-- a program from its name to its `end`
abbrev pub program_lines : List ℕ × Parts → List (List Token)
program_lines program = (Word (codes "program") ∷ Word program.0 ∷ []) ∷ source_lines program.1

-- an event, by the names of the programs
abbrev pub event_line : List (List ℕ) → Event → List Token
event_line names (Begin program args) = Word (codes "begin") ∷ Word (slice_index_or names program []) ∷ map Number args
event_line names (Turn activation limit) = Word (codes "turn") ∷ Number activation ∷ Number limit ∷ []
event_line names Checkpoint = Word (codes "checkpoint") ∷ []
event_line names Crash = Word (codes "crash") ∷ []

-- the lines of a job up to its programs
abbrev pub head_lines : ℕ → List (List ℕ) → List Parts → List (List Token)
head_lines frames names programs = number_line (codes "frames") frames ∷ flat_map program_lines (zip names programs)

-- the lines of a job: the frames, the programs, `schedule`, the events and `end`
abbrev pub job_lines : Content → List (List Token)
job_lines content =
    head_lines content.frames content.names content.programs
    ++ (Word (codes "schedule") ∷ []) ∷ map (event_line content.names) content.events ++ end_line ∷ []

-- the text of a job's lines
abbrev pub job_written : Content → List ℕ
job_written content = flat_map token_line (job_lines content)

-- numbers that bytes hold
abbrev pub AreBytes : List ℕ → Type 0
AreBytes bytes = EachIndex bytes (λ k. slice_index bytes k < 256)

-- the bytes of names
abbrev pub texts_of : List (ArrayVec ℕ) → List (List ℕ)
texts_of names = map (λ name. name.items) names

-- programs with their names
abbrev pub named_programs : List (ArrayVec ℕ) → List Program → List (List ℕ × Parts)
named_programs names programs = zip (texts_of names) (map parts_of programs)

-- a line was added to a text, with its line feed
abbrev pub AddsLine : (old new : Vec ℕ Global) → List Token → Type 0
AddsLine old new line = new.items ≡ old.items ++ token_line line

-- lines were added to a text, each with its line feed
abbrev pub AddsLines : (old new : Vec ℕ Global) → List (List Token) → Type 0
AddsLines old new lines = new.items ≡ old.items ++ flat_map token_line lines

-- where some text is a job that says this, this one has fewer than 2^23 bytes
abbrev pub HasShortText : Content → (text : List ℕ) → Type 0
HasShortText content text = (other : List ℕ) → job_of other ≡ Ok content → length text < 2 ^ 23

-- where some text is a job that says this, this one is too
abbrev pub SaysAgain : Content → (text : List ℕ) → Type 0
SaysAgain content text = (other : List ℕ) → job_of other ≡ Ok content → job_of text ≡ Ok content
