-- What a supervisor's calls keep of an outside, and what they tell of its bytes.
use Rattle.std.specs.Prelude.{◌≡◌, ℕ, ◌+◌, ◌≤◌, ◌%◌, ◌^◌, nat_lt, if◌then◌else◌, Bool, true, false, List, [], ◌∷◌, ◌++◌, length, sum_by, take, IsSome, Option, Some, None}
use Rattle.std.specs.Option.{ForSome}
use Rattle.desk.specs.Below.{chosen, Ghosts, Header, header_of, held_of, total}
use Rattle.lines.specs.declared.line_geometry.PageSize.{PageSize}
pub use Rattle.store_format.specs.Asked.{records_of}
use Rattle.store_format.specs.Bank.{Holds, Faulty, RecordLine, base_of, bank_of, record_bytes}
use Rattle.desk.specs.declared.answers.Reopened.{Reopened}
use Rattle.desk.specs.declared.answers.Reopened.TheVariants as reopened
use Rattle.desk.specs.declared.answers.TurnEnd.{TurnEnd}
use Rattle.desk.specs.declared.answers.TurnEnd.TheVariants as end
use Rattle.desk.specs.Instruction.{Committed}
use Rattle.desk.specs.Run.{Happening, Turned, CheckpointMade}
use Rattle.desk.specs.ReportLines as line
use Rattle.desk.specs.ReportLines.{ReportLine}

-- the bytes that are told are enough for a store with this header
abbrev pub HoldsStore : {W : Type 0} → Ghosts W → Header → W → Type 0
HoldsStore G header outside = ForSome (G.held outside) (λ bytes. total header ≤ length bytes)

-- bytes that were told are told
abbrev pub StillTold : {W : Type 0} → Ghosts W → W → W → Type 0
StillTold G before after = IsSome (G.held before) → IsSome (G.held after)

-- the answer to a crash is what the chosen bank of a store with this header holds, where the bytes are told
abbrev pub IsDamage : {W : Type 0} → Ghosts W → Header → W → Reopened → Type 0
IsDamage G header outside (reopened.Damaged offset) = IsSome (G.held outside) → bank_of (held_of G outside) header (chosen (held_of G outside)) ≡ Faulty offset
IsDamage G header outside (reopened.Number number) = IsSome (G.held outside) → (gate : ℕ) × (records : List _) × (bank_of (held_of G outside) header (chosen (held_of G outside)) ≡ Holds gate records) × (number ≡ (base_of (held_of G outside) header (chosen (held_of G outside)) + length records) % 2 ^ 64)
IsDamage G header outside _ = Unit {0}

-- where writes are told, at least so many more succeeded
abbrev pub WritesMore : Option ℕ → Option ℕ → ℕ → Type 0
WritesMore None now more = Unit {0}
WritesMore (Some before) now more = (count : ℕ) × (now ≡ Some count) × (before + more ≤ count)

-- how many writes succeed at least in a turn that ends so
abbrev pub writes_due : TurnEnd → ℕ
writes_due (end.Committed number steps) = 2
writes_due _ = 0

-- whether the end of a turn tells of a disk that failed
abbrev pub turn_fails : TurnEnd → Bool
turn_fails end.Disk = true
turn_fails (end.Closed doubt number) = true
turn_fails _ = false

-- whether a line tells of a disk that failed
abbrev pub tells_fault : ReportLine → Bool
tells_fault (line.Disk activation) = true
tells_fault line.Closed = true
tells_fault _ = false

-- The journal of a store: the size of its pages, the bytes of a record area, and the records in it.
pub record Journal : Type 0 where
  pub page : PageSize
  pub area : ℕ
  pub records : List (List RecordLine)

-- the journal that the chosen bank of a store with this header is
abbrev pub journal_under : List ℕ → Header → Journal
journal_under held header = record { page = header.directory.page; area = header.bank_bytes; records = records_of (bank_of held header (chosen held)) }

-- the journal of these bytes
abbrev pub journal_in : List ℕ → Journal
journal_in held = journal_under held (header_of (take 128 held))

-- the bytes that records take
abbrev pub bytes_taken : PageSize → List (List RecordLine) → ℕ
bytes_taken page records = sum_by (λ lines. record_bytes page (length lines)) records

-- a journal with one record more: behind the others, or where it and a closed gate have no room there, alone
abbrev pub journal_with : Journal → List RecordLine → Journal
journal_with journal lines =
    record journal { records = if nat_lt (bytes_taken journal.page (journal.records ++ lines ∷ [])) journal.area then journal.records ++ lines ∷ [] else lines ∷ [] }

-- a journal without its records
abbrev pub journal_emptied : Journal → Journal
journal_emptied journal = record journal { records = [] }

-- what becomes of a journal by what happened: a commit adds one record, a checkpoint leaves none, and nothing else touches it
abbrev pub JournalAfter : Happening → (old new : Journal) → Type 0
JournalAfter CheckpointMade old new = new ≡ journal_emptied old
JournalAfter (Turned activation counts (Committed steps out)) old new = (lines : List RecordLine) × (new ≡ journal_with old lines)
JournalAfter _ old new = new ≡ old

-- the same by lines of a report, one after another
abbrev pub KeepsJournal : List ReportLine → (old new : Journal) → Type 0
KeepsJournal [] old new = new ≡ old
KeepsJournal (line.Stored number ∷ lines) old new = KeepsJournal lines (journal_emptied old) new
KeepsJournal (line.Commit activation number steps out ∷ lines) old new = (added : List RecordLine) × KeepsJournal lines (journal_with old added) new
KeepsJournal (_ ∷ lines) old new = KeepsJournal lines old new
