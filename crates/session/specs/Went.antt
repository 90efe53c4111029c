-- What a commit and a turn of a session did: the step of the desk, and what the disk held at each moment.
use Rattle.std.specs.Prelude.{◌≡◌, ◌↔◌, ℕ, ◌+◌, ◌≤◌, ◌⊎◌, true, false, List, None, slice_set}
use Rattle.flat_machine.specs.declared.machine.Plain.{Plain}
use Rattle.desk.specs.Asked.{EventAsks}
use Rattle.outside.specs.Deeds.{Since}
use Rattle.session.specs.Below.{commit_call, commits, Desk, Doubt, ended, ending_told, FailsCounted, Fine, fine_step, Ghosts, HasNumbers, held_of, IfJournal, IsAtCommit, IsEitherOf, IsSure, journal_in, JournalAfter, Leaves, most_lines, number_after, number_in, store_number, OnlyWrites, ordered, Over, Reads, Rose, seat_of, standing_of, stands, Tally, tally_counts, ToldAfterEnd, turn, turn_fails, Turned, TurnEnd, Turning, DiskWord, writes_due, WritesMore}
use Rattle.desk.specs.declared.answers.TurnEnd.TheVariants as end
use Rattle.desk.specs.declared.event.Event.TheVariants as event
use Rattle.session.specs.declared.session.SessionState.{SessionState}
use Rattle.session.specs.Causes.{turn_answer, IsTurnEnd, LeavesStore, TellsNumber}
use Rattle.session.specs.Session.{IsSessionSound, activity, order_of, session_desk, session_told}
use Rattle.session.specs.Shown.{IsOpenOver}

-- how a commit call ends: it is done, too long for a record, or the desk closes
abbrev pub IsCommitEnd : TurnEnd → Type 0
IsCommitEnd (end.Committed number steps) = Unit {0}
IsCommitEnd (end.Journal lines most) = Unit {0}
IsCommitEnd (end.Closed doubt number) = Unit {0}
IsCommitEnd _ = ⊥

-- an end of a turn of an open session
abbrev pub IsTurned : TurnEnd → Type 0
IsTurned end.Shut = ⊥
IsTurned _ = Unit {0}

-- the desk at the commit call of who sits in a seat, at this state, after that went well
abbrev pub fine_desk : SessionState → (committed : List ℕ) → (seat : ℕ) → Plain → Desk
fine_desk s committed seat now =
    record (ended (ordered (session_desk s committed) (commit_call (activity s) seat committed (order_of s) now)) (number_in (activity s).seating seat)) {
      committed = record (session_desk s committed).committed { bytes = now.store };
    }

-- an image stands for what stood before a commit, or, where the order is that of the commit gone well, for what stands then
abbrev pub IsEitherSide : SessionState → (committed : List ℕ) → (fine new : Desk) → List ℕ → Type 0
IsEitherSide old committed fine new image =
    (stands image ≡ standing_of old.opened (session_desk old committed)) ⊎ (fine.order ≡ new.order) × (stands image ≡ standing_of old.opened fine)

-- A commit was what becomes of the commit call with a word, which isn't fine only where the disk's faults rose, and asked of the disk what it asks. While the session is
-- open its bytes are sure, and their journal has one record more. A crash in it leaves what stood before or after it; after a doubt
-- there is one place with whose byte the commit stands.
pub record HasCommitted {W : Type 0} (G : Ghosts W) (seat : ℕ) (now : Plain) (end : TurnEnd) (old new : SessionState) (tallied told : Tally) (before after : W) (committed : List ℕ) : Type 0 where
  pub word : DiskWord
  pub reads : (counted : ℕ) → Reads word counted
  pub next : Desk
  pub step : commits word (commit_call (activity old) seat committed (order_of old) now) (session_desk old committed) (tally_counts tallied) ≡ Over next (tally_counts told) (ending_told end new.printed)
  pub closes : next.closed ≡ new.closed
  pub ordered : next.order ≡ order_of new
  pub why : (word ≡ Fine) ⊎ Rose (G.disk_faults before) (G.disk_faults after)
  pub numbers : HasNumbers end (number_in (activity old).seating seat) (number_after old.opened next)
  pub deeds : Since (G.deeds before) (G.deeds after) (EventAsks (held_of G before) (Turned (number_in (activity old).seating seat) (tally_counts told) (ending_told end new.printed)))
  pub journal : new.closed ≡ false → JournalAfter (Turned (number_in (activity old).seating seat) (tally_counts told) (ending_told end new.printed)) (journal_in (held_of G before)) (journal_in (held_of G after))
  pub still : new.closed ≡ false → IsSure G after × ((over : IsOpenOver new (held_of G after)) × (next ≡ session_desk new over.committed))
  pub crash : Leaves G (λ image seen. IsEitherSide old committed (fine_desk old committed seat now) next image) before after
  pub doubt : word ≡ Doubt → ((fine_desk old committed seat now).order ≡ next.order) × ((gate : ℕ) × Leaves G (λ image seen. stands (slice_set image gate 165) ≡ standing_of old.opened (fine_desk old committed seat now)) after after)

-- where the session is open over sure bytes, at the commit call of a run of the desk
abbrev pub CommitsAt : {W : Type 0} (G : Ghosts W) (seat : ℕ) (end : TurnEnd) (old new : SessionState) (tallied told : Tally) (before after : W) → Type 0
CommitsAt G seat end old new tallied told before after =
    (begins : DiskWord → Turning) → IsSure G before → (over : IsOpenOver old (held_of G before))
    → (at : IsAtCommit begins (activity old) seat over.committed (order_of old) (tally_counts tallied))
    → HasCommitted G seat at.now end old new tallied told before after over.committed

-- A turn was one of the desk, in the same way.
pub record TurnHasRun {W : Type 0} (G : Ghosts W) (activation limit : ℕ) (end : TurnEnd) (old new : SessionState) (told : Tally) (before after : W) (committed : List ℕ) : Type 0 where
  pub word : DiskWord
  pub next : Desk
  pub step : turn word activation limit (session_desk old committed) ≡ Over next (tally_counts told) (ending_told end new.printed)
  pub closes : next.closed ≡ new.closed
  pub ordered : next.order ≡ order_of new
  pub why : (word ≡ Fine) ⊎ Rose (G.disk_faults before) (G.disk_faults after)
  pub numbers : HasNumbers end activation (number_after old.opened next)
  pub deeds : Since (G.deeds before) (G.deeds after) (EventAsks (held_of G before) (Turned activation (tally_counts told) (ending_told end new.printed)))
  pub journal : new.closed ≡ false → JournalAfter (Turned activation (tally_counts told) (ending_told end new.printed)) (journal_in (held_of G before)) (journal_in (held_of G after))
  pub still : new.closed ≡ false → IsSure G after × ((over : IsOpenOver new (held_of G after)) × (next ≡ session_desk new over.committed))
  pub crash : Leaves G (λ image seen. IsEitherOf (activity old).programs old.opened (event.Turn activation limit) (session_desk old committed) next image) before after
  pub doubt : word ≡ Doubt → new.closed ≡ true → ((fine_step (activity old).programs (event.Turn activation limit) (session_desk old committed)).order ≡ next.order) × ((gate : ℕ) × Leaves G (λ image seen. stands (slice_set image gate 165) ≡ standing_of old.opened (fine_step (activity old).programs (event.Turn activation limit) (session_desk old committed))) after after)

-- how the commit call of who sits in a seat ended, what was counted, and what the answer tells of the store and of the disk
pub record EndsCommit {W : Type 0} (G : Ghosts W) (seat : ℕ) (how : TurnEnd) (old : SessionState) (tallied counted : Tally) (before after : W) : Type 0 where
  pub only : OnlyWrites G before after
  pub end : IsCommitEnd how
  pub ran : counted.ran ≤ tallied.ran + 1
  pub journal : IfJournal (most_lines old.store.header) how
  pub numbered : TellsNumber (number_in (activity old).seating seat) (store_number old.store) how
  pub failed : FailsCounted (turn_fails how) (G.disk_faults before) (G.disk_faults after)

-- and what it did with the session
pub record HasCommitCall {W : Type 0} (G : Ghosts W) (seat : ℕ) (how : TurnEnd) (old new : SessionState) (tallied counted : Tally) (before after : W) : Type 0 where
  pub ends : EndsCommit G seat how old tallied counted before after
  pub sound : IsSessionSound new
  pub writes : WritesMore (G.writes before) (G.writes after) (writes_due how)
  pub told : ToldAfterEnd (number_in (activity old).seating seat) how (session_told old) (session_told new)
  pub stored : LeavesStore G (number_in (activity old).seating seat) how old.store new before after
  pub went : CommitsAt G seat how old new tallied counted before after

-- What a turn of an activation did: the cause of its end, what is told of it, what becomes of the store, and, from sure bytes, `TurnHasRun`.
pub record HasTurnEnd {W : Type 0} (G : Ghosts W) (activation limit : ℕ) (how : TurnEnd) (old new : SessionState) (counted : Tally) (before after : W) : Type 0 where
  pub sound : IsSessionSound new
  pub only : OnlyWrites G before after
  pub writes : WritesMore (G.writes before) (G.writes after) (writes_due how)
  pub turned : IsTurned how
  pub idle : (how ≡ end.Idle) ↔ (seat_of (activity old).seating activation ≡ None)
  pub ends : IsTurnEnd activation limit (most_lines old.store.header) (store_number old.store) (turn_answer counted how)
  pub told : ToldAfterEnd activation how (session_told old) (session_told new)
  pub stored : LeavesStore G activation how old.store new before after
  pub failed : FailsCounted (turn_fails how) (G.disk_faults before) (G.disk_faults after)
  pub went : IsSure G before → (over : IsOpenOver old (held_of G before)) → TurnHasRun G activation limit how old new counted before after over.committed
