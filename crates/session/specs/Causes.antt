-- Why the answers of a session come.
use Rattle.std.specs.Prelude.{◌≡◌, ◌≢◌, ◌↔◌, ℕ, ◌+◌, ◌%◌, ◌<◌, ◌≤◌, ◌^◌, true, false, List, length, Option, Some, None, IsSome}
use Rattle.session.specs.Below.{absent_segment, Activity, counts_told, Desk, Ghosts, has, HasCrashed, HasStored, HasTurned, held_of, IfChecked, IfJournal, IfLimit, IfVictim, IfWaits, StoreView, Leaves, most_lines, no_counts, number_in, store_number, OnlyAsks, OnlyWrites, program_at, Rose, seat_of, StoredNumber, Tally, TracksStore, TurnEnd, with_begun}
use Rattle.store_format.specs.Bank.{RecordLine}
use Rattle.store.specs.declared.keep.Kept.{Kept}
use Rattle.store.specs.declared.keep.Kept.TheVariants as kept
use Rattle.store.specs.Appended.{FailedLeaves}
use Rattle.store.specs.Exact.{CommitsDeeds}
use Rattle.store.specs.Kept.{begun_of, with_record}
use Rattle.store.specs.Tracks.{IsEither}
use Rattle.store.specs.Committed.{roomy, IsKeptAfter}
use Rattle.desk.specs.declared.answers.Begun.{Begun}
use Rattle.desk.specs.declared.answers.Begun.TheVariants as begun
use Rattle.desk.specs.declared.answers.Reopened.{Reopened}
use Rattle.desk.specs.declared.answers.Reopened.TheVariants as reopened
use Rattle.desk.specs.declared.answers.Stored.{Stored}
use Rattle.desk.specs.declared.answers.Stored.TheVariants as stored
use Rattle.desk.specs.declared.answers.Turn.{Turn}
use Rattle.desk.specs.declared.answers.TurnEnd.TheVariants as end
use Rattle.activations.specs.Recorded.{IsRecordOf}
use Rattle.session.specs.declared.session.SessionState.{SessionState}
use Rattle.session.specs.Session.{activity, session_number, records_told, session_told, store_told}
use Rattle.session.specs.Shown.{ShowsDesk}

-- sixteen are active
abbrev pub IsFull : Activity → Type 0
IsFull a = length a.seating.taken ≡ 16

-- fewer are active
abbrev pub HasPlace : Activity → Type 0
HasPlace a = length a.seating.taken < 16

-- the first segment of a program's windows that the store lacks
abbrev pub lacking : Activity → (program : ℕ) → Option ℕ
lacking a program = absent_segment a.reach.directory (program_at a.programs program).windows

-- The answer to a begin of a program gives the cause, and the next number: sixteen are active, or fewer and the store lacks this segment, or none.
pub record IsBeginAnswer (a : Activity) (program : ℕ) (answer : Begun) : Type 0 where
  pub busy : (number : ℕ) → (answer ≡ begun.Busy number) ↔ (IsFull a × (number ≡ a.next))
  pub no_segment : (number segment : ℕ) → (answer ≡ begun.NoSegment number segment) ↔ (HasPlace a × (lacking a program ≡ Some segment) × (number ≡ a.next))
  pub started : (number : ℕ) → (answer ≡ begun.Started number) ↔ (HasPlace a × (lacking a program ≡ None) × (number ≡ a.next))

-- a session that is open gives it so
abbrev pub AnswersBegin : SessionState → (program : ℕ) → Begun → Type 0
AnswersBegin s program answer = (session_told s).closed ≡ false → IsBeginAnswer (activity s) program answer

-- The number that a commit tells is the one after the store's; where it is in doubt, it is that of this activation.
abbrev pub TellsNumber : (activation number : ℕ) → TurnEnd → Type 0
TellsNumber activation number (end.Committed told steps) = told ≡ (number + 1) % 2 ^ 64
TellsNumber activation number (end.Closed None told) = told ≡ (number + 1) % 2 ^ 64
TellsNumber activation number (end.Closed (Some doubted) told) = (doubted ≡ activation) × (told ≡ (number + 1) % 2 ^ 64)
TellsNumber activation number _ = Unit {0}

-- what is told of a turn that was counted so and ended so
abbrev pub turn_answer : Tally → TurnEnd → Turn
turn_answer tally end = record { ran = tally.ran; pages = tally.pages; locks = tally.locks; cycles = tally.cycles; end = end }

-- The answer to a turn of an activation gives the true cause of its end, where a record has at most so many lines and the store had this number: it
-- waits for some, its record has too many lines, it ran to its limit, it was the victim of a cycle, it met a check with one of the codes of checks, or
-- a page that was counted couldn't be read.
pub record IsTurnEnd (activation limit most number : ℕ) (answer : Turn) : Type 0 where
  pub ran : answer.ran ≤ limit
  pub waits : IfWaits activation answer.end
  pub checked : IfChecked answer.end
  pub journal : IfJournal most answer.end
  pub limited : IfLimit limit answer.ran answer.end
  pub victim : IfVictim activation answer.cycles.items answer.end
  pub pages : answer.end ≡ end.Disk → 0 < answer.pages
  pub numbered : TellsNumber activation number answer.end

-- The answer to a turn asked of a session gives the true cause: nothing was counted of one that was closed, and one that was open had nobody of that
-- number exactly where the turn is idle.
pub record IsTurnAnswer (s : SessionState) (activation limit : ℕ) (answer : Turn) : Type 0 where
  pub uncounted : s.closed ≡ true → counts_told answer ≡ no_counts
  pub idle : s.closed ≡ false → (answer.end ≡ end.Idle) ↔ (seat_of (activity s).seating activation ≡ None)
  pub caused : IsTurnEnd activation limit (most_lines s.store.header) (store_number s.store) answer

-- the number in the answer to a crash is this one
abbrev pub ReopenedNumber : Reopened → (number : ℕ) → Type 0
ReopenedNumber (reopened.Number told) number = told ≡ number
ReopenedNumber _ number = Unit {0}

-- What `Durable::commit` promises of a store with a begun record where it answers so, Unwritten or Doubt: the disk's count rose in it.
pub record IsFailedCommit {W : Type 0} (G : Ghosts W) (answer : Kept) (old new : StoreView) (before after : W) : Type 0 where
  pub only : OnlyWrites G before after
  pub rose : Rose (G.disk_faults before) (G.disk_faults after)
  pub kept : IsKeptAfter answer (roomy old.bank) old.bank new.bank
  pub crash : TracksStore G old before → Leaves G (IsEither (begun_of old.bank) (held_of G before)) before after
  pub left : TracksStore G old before → FailedLeaves G old.bank (roomy old.bank) before after answer
  pub deeds : TracksStore G old before → CommitsDeeds (G.deeds before) (G.deeds after) (roomy old.bank) old.bank (held_of G before) answer

-- Up to a moment the disk was only asked, and its count stayed. From then on all is as `Durable::commit` promises where it answers so, of a record of the
-- lines that an activation holds to write: the count rose in it. The activation sits there still.
pub record ClosesInCommit {W : Type 0} (G : Ghosts W) (activation : ℕ) (answer : Kept) (store : StoreView) (new : SessionState) (before after : W) : Type 0 where
  pub seat : ℕ
  pub taken : has (activity new).seating.taken seat ≡ true
  pub number : number_in (activity new).seating seat ≡ activation
  pub lines : List RecordLine
  pub recorded : IsRecordOf (activity new) seat lines
  pub begun : W
  pub asks : OnlyAsks G before begun
  pub calm : G.disk_faults begun ≡ G.disk_faults before
  pub failed : IsFailedCommit G answer (with_begun store lines) (store_told new) begun after

-- a bank with one record more than a store's, or where that doesn't fit the one after a checkpoint with just that record
pub record HasItsRecord (store new : StoreView) : Type 0 where
  pub lines : List RecordLine
  pub kept : new.bank ≡ with_record (roomy (with_begun store lines).bank)

-- What a turn of an activation that ends so does with the store: a commit adds its record; one that closes ends as its commit does, at Doubt where the
-- close is in doubt, and else at Unwritten; no other end touches it.
abbrev pub LeavesStore : {W : Type 0} → Ghosts W → (activation : ℕ) → TurnEnd → StoreView → SessionState → W → W → Type 0
LeavesStore G activation (end.Committed told steps) store new before after = HasItsRecord store (store_told new)
LeavesStore G activation (end.Closed (Some doubted) told) store new before after = ClosesInCommit G activation kept.Doubt store new before after
LeavesStore G activation (end.Closed None told) store new before after = ClosesInCommit G activation kept.Unwritten store new before after
LeavesStore G activation _ store new before after = store_told new ≡ store

-- What a turn asked of a session did: what one of a supervisor does, what it leaves of the store, and why its answer comes.
pub record SessionTurn {W : Type 0} (G : Ghosts W) (activation limit : ℕ) (old new : SessionState) (before after : W) (how : Turn) : Type 0 where
  pub turned : HasTurned ShowsDesk session_told G activation limit old new before after how
  pub stored : LeavesStore G activation how.end (store_told old) new before after
  pub answer : IsTurnAnswer old activation limit how

-- the same of a checkpoint, whose number is the store's, and behind which the chosen bank has no record
pub record SessionCheckpoint {W : Type 0} (G : Ghosts W) (old new : SessionState) (before after : W) (answer : Stored) : Type 0 where
  pub number : StoredNumber answer (session_number old)
  pub emptied : (number : ℕ) → answer ≡ stored.Number number → records_told new ≡ 0
  pub stored : HasStored ShowsDesk session_told G old new before after answer

-- and of a crash: bytes over which a desk is shown aren't found damaged
pub record SessionCrash {W : Type 0} (G : Ghosts W) (old new : SessionState) (before after : W) (answer : Reopened) : Type 0 where
  pub crashed : HasCrashed ShowsDesk session_told G old new before after answer
  pub number : ReopenedNumber answer (session_number new)
  pub undamaged : (desk : Desk) (offset : ℕ) → IsSome (G.held before) → ShowsDesk old (held_of G before) desk → answer ≢ reopened.Damaged offset
