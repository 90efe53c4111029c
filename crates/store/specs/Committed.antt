-- Which bytes a checkpoint and a commit write, home lines, and what a checkpoint leaves, and a commit, which makes its own room.
use Rattle.std.specs.Prelude.{◌≡◌, ◌⊎◌, ℕ, ◌+◌, ◌%◌, ◌^◌, nat_lt, if◌then◌else◌, List, [], ◌<◌, ◌≤◌, length, slice_index, Some, ◌*◌, take, Option, None, Result, Ok, Err, OnOk, IsSome, IsTrue, slice_index_or}
use Rattle.store.specs.Below.{FailsOnlyCounted, Ghosts, Header, held_of, Leaves, LeavesStep, RecordLine, bank_at, home_at, line_bytes, line_count, Which, B, bytes_at, Torn, written, area_at, Failed, header_of, IsStore, IsSure, stands, Carries, copy_deeds}
use Rattle.store.specs.Appended.{CountsKept, FailedLeaves}
use Rattle.store.specs.Held.{IsMoreBy, OnlyWrites}
use Rattle.store.specs.Kept.{BankView, SameShape, area_end, needed_end, bank_number, begun_of, spoilt, with_record, newest_place, end_of, line_bytes_of}
use Rattle.store.specs.Tracks.{HoldsOneOf, IsAppended, IsEither, TracksBank, HoldsRecords}
use Rattle.store.specs.Turned.{bank_turned}
use Rattle.store.specs.declared.keep.Kept.{Kept}
use Rattle.store.specs.declared.keep.Kept.TheVariants.{Done, Unwritten, Doubt}
use Rattle.store.specs.Exact.{checkpoint_deeds, CommitsDeeds, homes_written}
use Rattle.store.specs.Chosen.{other}

-- The image is as long as the old one, and has the same byte at each offset but these.
pub record IsSameBut (offsets : ℕ → Type 0) (old image : List ℕ) : Type 0 where
  pub long : length image ≡ length old
  pub same : (at : ℕ) → (¬ (offsets at)) → slice_index image at ≡ slice_index old at

-- The offset lies in the home of a line that records have.
pub record IsHomeOffset (header : Header) (records : List (List RecordLine)) (at : ℕ) : Type 0 where
  pub line : ℕ
  pub place : ℕ
  pub below : line < line_count header.directory
  pub there : newest_place line records ≡ Some place
  pub from : home_at header line ≤ at
  pub to : at < home_at header line + line_bytes header.directory.page

-- it lies there, in the base number or the first gate of the other bank, or is that of the selector
abbrev pub IsCheckpointOffset : Header → Which → List (List RecordLine) → ℕ → Type 0
IsCheckpointOffset header which records at =
    IsHomeOffset header records at ⊎ (((bank_at header (other which) ≤ at) × (at < bank_at header (other which) + 9)) ⊎ (at ≡ 128))

-- it lies in the begun record or a gate beside it, in the bank that the record is added to, or, where that is the other bank, it is one of the checkpoint in front
abbrev pub IsCommitOffset : Header → (there bank : BankView) → List (List RecordLine) → ℕ → Type 0
IsCommitOffset header there bank records at =
    ((there.gate ≤ at) × (at < needed_end there)) ⊎ ((there.which ≡ other bank.which) × IsCheckpointOffset header bank.which records at)

-- where the home of a line is, in a store whose banks are like this one
abbrev pub home_place : BankView → ℕ → ℕ
home_place bank line = end_of B bank.bank_bytes + line_bytes_of bank * line

-- how many bytes a store has whose banks are like this one
abbrev pub store_bytes : BankView → ℕ
store_bytes bank = home_place bank (length bank.newest)

-- the bytes of a line's home
abbrev pub home_line : Header → List ℕ → ℕ → List ℕ
home_line header image line = bytes_at image (home_at header line) (line_bytes header.directory.page)

-- bytes of a disk after the newest bytes of a line, so many, were written to a place, where there are any
abbrev pub copied : ℕ → List ℕ → Option ℕ → ℕ → List ℕ
copied bytes held None at = held
copied bytes held (Some from) at = written held at (bytes_at held from bytes)

-- what a crash leaves of it
abbrev pub TornLine : ℕ → Option ℕ → ℕ → List ℕ → List ℕ → Type 0
TornLine bytes None at old new = new ≡ old
TornLine bytes (Some from) at old new = Torn at bytes old new

-- The bytes of a line, so many, are copied from a place to another, where there is one; a crash may leave anything there.
pub record CopiesLine {W : Type 0} (G : Ghosts W) {T : Type 0} (bytes : ℕ) (from : Option ℕ) (to : ℕ) (old new : W) (result : Result T Failed) : Type 0 where
  pub only : OnlyWrites G old new
  pub crash : IsTrue (G.is_honest old) → IsSome (G.held old) → LeavesStep (TornLine bytes from to) G.moment G.left_since old new
  pub done : OnOk result (IsSome (G.held old) → held_of G new ≡ copied bytes (held_of G old) from to)
  pub cause : FailsOnlyCounted (G.disk_faults old) (G.disk_faults new) result
  pub deeds : IsSome (G.held old) → Carries (G.deeds old) (G.deeds new) (copy_deeds bytes (held_of G old) from to) result

-- the newest bytes of a line are copied to its home, where the bank holds it
abbrev pub CopiesNewest : {W : Type 0} → Ghosts W → {T : Type 0} → BankView → ℕ → W → W → Result T Failed → Type 0
CopiesNewest G bank line old new result = CopiesLine G (line_bytes_of bank) (slice_index_or bank.newest line None) (home_place bank line) old new result

-- The image is the one held but for the home lines of lines that records have.
pub record IsHomeCovered (header : Header) (records : List (List RecordLine)) (held image : List ℕ) : Type 0 where
  pub front : take (home_at header 0) image ≡ take (home_at header 0) held
  pub others : (line : ℕ) → line < line_count header.directory → newest_place line records ≡ None → home_line header image line ≡ home_line header held line
  pub apart : IsSameBut (IsHomeOffset header records) held image

-- And up to a line each line that they have is at home.
pub record IsHomed (header : Header) (records : List (List RecordLine)) (held : List ℕ) (upto : ℕ) (image : List ℕ) : Type 0 where
  pub covered : IsHomeCovered header records held image
  pub homed : (line place : ℕ) → line < upto → line < line_count header.directory → newest_place line records ≡ Some place → home_line header image line ≡ bytes_at held place (line_bytes header.directory.page)

-- The newest bytes of all lines of a bank are written home. Of a bank that is tracked: a crash leaves all but these homes.
pub record WritesHome {W : Type 0} (G : Ghosts W) {T : Type 0} (bank : BankView) (old new : W) (result : Result T Failed) : Type 0 where
  pub only : OnlyWrites G old new
  pub crash : (tracks : TracksBank G bank old) → Leaves G (λ image seen. IsHomeCovered tracks.header tracks.records (held_of G old) image) old new
  pub done : OnOk result ((tracks : TracksBank G bank old) → IsHomed tracks.header tracks.records (held_of G old) (length bank.newest) (held_of G new))
  pub cause : FailsOnlyCounted (G.disk_faults old) (G.disk_faults new) result
  pub deeds : TracksBank G bank old → Carries (G.deeds old) (G.deeds new) (homes_written bank (held_of G old) (length bank.newest)) result

-- The image stands for what was held, by its old bank or by the other one without records, and is what was held at each offset that a checkpoint doesn't write.
pub record IsSame (header : Header) (bank : BankView) (records : List (List RecordLine)) (held image : List ℕ) : Type 0 where
  pub stood : stands image ≡ stands held
  pub one_of : HoldsRecords header bank.which bank.base records image ⊎ HoldsRecords header (other bank.which) (bank_number bank) [] image
  pub apart : IsSameBut (IsCheckpointOffset header bank.which records) held image

-- The other bank is chosen, has the number as its base and no records; all is sure and stands for what stood.
pub record IsMoved {W : Type 0} (G : Ghosts W) (header : Header) (bank : BankView) (old new : W) : Type 0 where
  pub sure : IsSure G new
  pub stood : stands (held_of G new) ≡ stands (held_of G old)
  pub store : IsStore (held_of G new) header (other bank.which) (bank_number bank) (area_at header (other bank.which)) []

-- What a bank holds is moved home, and the other bank chosen. Of a bank that is tracked: whenever a crash comes, it leaves what stood.
pub record Moves {W : Type 0} (G : Ghosts W) {T : Type 0} (bank : BankView) (old new : W) (result : Result T Failed) : Type 0 where
  pub only : OnlyWrites G old new
  pub crash : (tracks : TracksBank G bank old) → Leaves G (λ image seen. IsSame tracks.header bank tracks.records (held_of G old) image) old new
  pub done : OnOk result ((tracks : TracksBank G bank old) → IsMoved G tracks.header bank old new)
  pub cause : FailsOnlyCounted (G.disk_faults old) (G.disk_faults new) result
  pub deeds : TracksBank G bank old → Carries (G.deeds old) (G.deeds new) (checkpoint_deeds bank (held_of G old)) result

-- what is kept after a checkpoint: the other bank, or where it failed this one, which is to be reopened
abbrev pub bank_checkpointed : Result (Unit {0}) Failed → BankView → BankView
bank_checkpointed (Ok done) bank = bank_turned (other bank.which) bank
bank_checkpointed (Err failed) bank = spoilt bank

-- The bank turned to is tracked, and the bytes stand for what they did. Each crash image of the moment has the number as its base, and no record.
pub record IsCheckpointed {W : Type 0} (G : Ghosts W) (old_bank bank : BankView) (old new : W) : Type 0 where
  pub tracks : TracksBank G bank new
  pub stood : stands (held_of G new) ≡ stands (held_of G old)
  pub header : header_of (take 128 (held_of G new)) ≡ header_of (take 128 (held_of G old))
  pub emptied : Leaves G (λ image seen. HoldsRecords (header_of (take 128 (held_of G old))) (other old_bank.which) (bank_number old_bank) [] image) new new

-- What a checkpoint does: the sizes stay, and a begun record fits behind it. Of banks that are tracked: whenever a crash comes, it leaves what stood, by one bank or the other.
pub record Checkpoints {W : Type 0} (G : Ghosts W) (old new : BankView) (before after : W) (result : Result (Unit {0}) Failed) : Type 0 where
  pub only : OnlyWrites G before after
  pub shape : SameShape old new
  pub kept : new ≡ bank_checkpointed result old
  pub fits : OnOk result (needed_end new ≤ area_end new)
  pub cause : FailsOnlyCounted (G.disk_faults before) (G.disk_faults after) result
  pub deeds : TracksBank G old before → Carries (G.deeds before) (G.deeds after) (checkpoint_deeds old (held_of G before)) result
  pub crash : (tracks : TracksBank G old before) → Leaves G (λ image seen. IsSame tracks.header old tracks.records (held_of G before) image) before after
  pub held : (tracks : TracksBank G old before) → IsSame tracks.header old tracks.records (held_of G before) (held_of G after)
  pub done : OnOk result (TracksBank G old before → IsCheckpointed G old new before after)

-- the bank after a checkpoint
abbrev pub emptied : BankView → BankView
emptied bank = bank_turned (other bank.which) bank

-- the bank that a record is added to: this one, or where it doesn't fit the one after a checkpoint
abbrev pub roomy : BankView → BankView
roomy bank = if nat_lt (area_end bank) (needed_end bank) then emptied bank else bank

-- the number after a commit
abbrev pub number_by_answer : Kept → ℕ → ℕ
number_by_answer Done number = (number + 1) % 2 ^ 64
number_by_answer Unwritten number = number
number_by_answer Doubt number = number

-- What is kept after a commit: the record is the bank's, or the bank is to be reopened, there or where the checkpoint in front failed.
abbrev pub IsKeptAfter : Kept → BankView → BankView → BankView → Type 0
IsKeptAfter Done there old new = new ≡ with_record there
IsKeptAfter Unwritten there old new = (new ≡ spoilt there) ⊎ (new ≡ spoilt old)
IsKeptAfter Doubt there old new = new ≡ spoilt there

-- the bytes are a store with this header, whose bank holds what the kept one did, with the begun record or without; or the other bank is chosen, which holds nothing or that record
abbrev pub HoldsCommitted : Header → BankView → List (List RecordLine) → List ℕ → Type 0
HoldsCommitted header bank records held =
    HoldsOneOf header bank.which bank.base records (begun_of bank) held ⊎ HoldsOneOf header (other bank.which) (bank_number bank) [] (begun_of (emptied bank)) held

-- What a commit leaves of the bytes: those held are such ones, and they and each image that a crash leaves are those of before at each offset that it doesn't write.
pub record LeavesCommitted {W : Type 0} (G : Ghosts W) (header : Header) (there bank : BankView) (records : List (List RecordLine)) (before after : W) : Type 0 where
  pub held : HoldsCommitted header bank records (held_of G after)
  pub stays : IsSameBut (IsCommitOffset header there bank records) (held_of G before) (held_of G after)
  pub apart : Leaves G (λ image seen. IsSameBut (IsCommitOffset header there bank records) (held_of G before) image) before after

-- What a commit of the begun record does, to this bank or behind a checkpoint, where it is answered so: it only asks and writes, the sizes stay, the disk's count
-- is told, and a record that is kept took at least two writes. Of banks that are tracked: whenever a crash comes, it leaves what stood, or that with the record.
pub record Commits {W : Type 0} (G : Ghosts W) (there old new : BankView) (before after : W) (answer : Kept) : Type 0 where
  pub only : OnlyWrites G before after
  pub shape : SameShape old new
  pub kept : IsKeptAfter answer there old new
  pub counted : CountsKept G before after answer
  pub writes : answer ≡ Done → IsMoreBy 2 (G.writes before) (G.writes after)
  pub deeds : TracksBank G old before → CommitsDeeds (G.deeds before) (G.deeds after) there old (held_of G before) answer
  pub crash : TracksBank G old before → Leaves G (IsEither (begun_of old) (held_of G before)) before after
  pub left : TracksBank G old before → FailedLeaves G old there before after answer
  pub records : (tracks : TracksBank G old before) → LeavesCommitted G tracks.header there old tracks.records before after
  pub done : answer ≡ Done → TracksBank G old before → IsAppended G old new before after
