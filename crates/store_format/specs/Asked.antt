-- What keeping a record, a checkpoint and a commit ask of the disk that holds a store: each write with its place and bytes, and each sync, in order.
use Rattle.std.specs.Prelude.{◌≡◌, ℕ, zero, suc, ◌+◌, ◌*◌, ◌%◌, ◌^◌, ◌<◌, ◌≤◌, ◌⊎◌, List, [], ◌∷◌, ◌++◌, length, Option, None, Some}
use Rattle.byteorder.specs.Endian.{big_bytes}
use Rattle.lines.specs.FlatLines.{line_count}
use Rattle.lines.specs.Segments.{line_bytes}
use Rattle.lines.specs.declared.line_geometry.PageSize.{PageSize}
use Rattle.outside.specs.Bytes.{bytes_at}
use Rattle.outside.specs.Deeds.{Deed, IsCut, Synced, Wrote}
use Rattle.store_format.specs.declared.header.Which.{Which}
use Rattle.store_format.specs.declared.header.Which.TheVariants.{A, B}
use Rattle.store_format.specs.Bank.{area_at, BankContent, bank_of, base_of, Faulty, Holds, newest_place, record_bytes, RecordLine}
use Rattle.store_format.specs.Body.{IsBody}
use Rattle.store_format.specs.Header.{bank_at, Header, home_at}
use Rattle.store_format.specs.Stands.{chosen}

-- the other bank
abbrev pub other : Which → Which
other A = B
other B = A

-- the byte of the selector that chooses a bank
abbrev pub selector_of : Which → ℕ
selector_of A = 0
selector_of B = 1

-- what a bank without records begins with: its base and a closed gate
abbrev pub head_bytes : ℕ → List ℕ
head_bytes base = big_bytes 8 base ++ 0 ∷ []

-- a write that is made sure
abbrev pub sure_deeds : (at : ℕ) (bytes : List ℕ) → List Deed
sure_deeds at bytes = Wrote at bytes ∷ Synced ∷ []

-- a record's body behind its closed gate, and the gate's opening
abbrev pub body_deeds : (gate : ℕ) (body : List ℕ) → List Deed
body_deeds gate body = sure_deeds (gate + 1) body

abbrev pub gate_deeds : (gate : ℕ) → List Deed
gate_deeds gate = sure_deeds gate (0xA5 ∷ [])

-- so many bytes of a line are copied from a place, where there is one
abbrev pub copy_deeds : (bytes : ℕ) → List ℕ → Option ℕ → (to : ℕ) → List Deed
copy_deeds bytes held None to = []
copy_deeds bytes held (Some from) to = Wrote to (bytes_at held from bytes) ∷ []

-- the newest bytes of the first lines, each to its home: one write for each line that has a newest place
abbrev pub home_deeds : PageSize → (home : ℕ) (newest : ℕ → Option ℕ) → List ℕ → (upto : ℕ) → List Deed
home_deeds page home newest held zero = []
home_deeds page home newest held (suc line) =
    home_deeds page home newest held line ++ copy_deeds (line_bytes page) held (newest line) (home + line_bytes page * line)

-- the head of a bank at its place, with a number as its base, a sync, and the selector, made sure
abbrev pub turn_deeds : Which → (at number : ℕ) → List Deed
turn_deeds which at number = Wrote at (head_bytes number) ∷ Synced ∷ sure_deeds 128 (selector_of which ∷ [])

-- the records of a bank, and where its closed gate is; none where it has a fault
abbrev pub records_of : BankContent → List (List RecordLine)
records_of (Holds gate records) = records
records_of (Faulty offset) = []

abbrev pub gate_of : BankContent → ℕ
gate_of (Holds gate records) = gate
gate_of (Faulty offset) = offset

-- where a record of so many lines would end behind a gate, with its own closed gate
abbrev pub record_end : Header → (gate lines : ℕ) → ℕ
record_end header gate lines = gate + record_bytes header.directory.page lines + 1

-- the end of a bank's record area
abbrev pub area_end_of : Header → Which → ℕ
area_end_of header which = area_at header which + header.bank_bytes

-- Of the bytes of a store with this header:
module _ (header : Header) (held : List ℕ) where
  -- what the chosen bank holds
  abbrev pub chosen_content : BankContent
  chosen_content = bank_of held header (chosen held)

  -- the number that its records lead to
  abbrev pub chosen_number : ℕ
  chosen_number = (base_of held header (chosen held) + length (records_of chosen_content)) % 2 ^ 64

  -- what a checkpoint asks: a write for each line that the bank has, ascending, with its newest bytes; and then the other bank is turned to
  abbrev pub checkpoint_asks : List Deed
  checkpoint_asks =
      home_deeds header.directory.page (home_at header 0) (λ line. newest_place line (records_of chosen_content)) held (line_count header.directory)
      ++ turn_deeds (other (chosen held)) (bank_at header (other (chosen held))) chosen_number

  -- the body has the bytes of a record of these lines behind a gate: their count, the number that is due, they, and a closed gate
  abbrev pub IsRecordAt : (gate : ℕ) (lines : List RecordLine) (body : List ℕ) → Type 0
  IsRecordAt gate lines body = IsBody header.directory.page (line_count header.directory) ((chosen_number + 1) % 2 ^ 64) gate (length lines) lines body

  -- What a commit asks up to its record's body, and then at its gate:
  pub data CommitAsks : (front gate : List Deed) → Type 0 where
    -- the record behind the chosen bank's closed gate, where it has room there
    HasRoom : {lines : List RecordLine} {body : List ℕ} → record_end header (gate_of chosen_content) (length lines) ≤ area_end_of header (chosen held) → IsRecordAt (gate_of chosen_content) lines body
        → CommitAsks (body_deeds (gate_of chosen_content) body) (gate_deeds (gate_of chosen_content))
    -- and else behind a checkpoint, as the first one of the other bank
    MakesRoom : {lines : List RecordLine} {body : List ℕ} → area_end_of header (chosen held) < record_end header (gate_of chosen_content) (length lines) → IsRecordAt (area_at header (other (chosen held))) lines body
        → CommitAsks (checkpoint_asks ++ body_deeds (area_at header (other (chosen held))) body) (gate_deeds (area_at header (other (chosen held))))

  -- what one asks that is kept; that failed before its gate was asked, in the checkpoint in front or up to the body's sync; and that failed at its gate
  abbrev pub CommitDeeds : List Deed → Type 0
  CommitDeeds deeds = (front gate : List Deed) × CommitAsks front gate × (deeds ≡ front ++ gate)

  abbrev pub UnwrittenDeeds : List Deed → Type 0
  UnwrittenDeeds deeds = IsCut checkpoint_asks deeds ⊎ ((front gate : List Deed) × CommitAsks front gate × IsCut front deeds)

  abbrev pub DoubtedDeeds : List Deed → Type 0
  DoubtedDeeds deeds = (front gate last : List Deed) × CommitAsks front gate × IsCut gate last × (deeds ≡ front ++ last)
