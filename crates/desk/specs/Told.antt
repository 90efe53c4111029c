-- What a supervisor tells of itself at a moment, and what an event makes of it.
use Rattle.std.specs.Prelude.{◌≡◌, ℕ, ◌+◌, ◌≤◌, Bool, false, List}
use Rattle.desk.specs.Below.{Ghosts, held_of, IsSure, OnlyOpens, stands}
use Rattle.desk.specs.declared.answers.Begun.{Begun}
use Rattle.desk.specs.declared.answers.Begun.TheVariants as begun
use Rattle.desk.specs.declared.answers.Reopened.{Reopened}
use Rattle.desk.specs.declared.answers.Reopened.TheVariants as reopened
use Rattle.desk.specs.declared.answers.Stored.{Stored}
use Rattle.desk.specs.declared.answers.Stored.TheVariants as stored
use Rattle.desk.specs.declared.answers.Turn.{Turn}
use Rattle.desk.specs.declared.answers.TurnEnd.{TurnEnd}
use Rattle.desk.specs.declared.answers.TurnEnd.TheVariants as end
use Rattle.desk.specs.declared.event.Event.{Event}
use Rattle.desk.specs.declared.event.Event.TheVariants as event
use Rattle.desk.specs.Answers.{begun_told, EntersOrder, HasNumbers, IsReopened, KeepsPrinted, reopened_closes, reopened_told, stored_closes, stored_told, StoredNumber, turn_closes, turn_told}
use Rattle.desk.specs.Calls.{CallsStore, FailsCounted, Fixed, reopened_fails, StaysShut, stored_fails}
use Rattle.desk.specs.Crash.{TookEvent, View, standing_of, told_event, view}
use Rattle.desk.specs.Desk.{Desk}
use Rattle.desk.specs.Holdings.{numbers}
use Rattle.desk.specs.Instruction.{Fine}
use Rattle.desk.specs.Kept.{IsDamage, turn_fails, writes_due, WritesMore}
use Rattle.desk.specs.Report.{number_after}
use Rattle.desk.specs.Run.{Happening, step}

-- Whether it is closed, what only its opening set, how many activation numbers were given and how many turns made, what the activation of the last turn
-- that ended by a commit had printed, and its commits in order: a number and how many rows. It tells the order when it is closed too.
pub record Told : Type 0 where
  pub closed : Bool
  pub fixed : Fixed
  pub given : ℕ
  pub turns : ℕ
  pub printed : List ℕ
  pub order : List (ℕ × ℕ)

-- it is what a supervisor tells that shows this desk over these bytes: both are open, with one order, and the bytes stand for the desk
pub record TellsDesk (told : Told) (held : List ℕ) (desk : Desk) : Type 0 where
  pub still_open : told.closed ≡ false
  pub open_desk : desk.closed ≡ false
  pub ordered : told.order ≡ desk.order
  pub standing : stands held ≡ standing_of told.fixed.opened desk

-- what the end of a turn of an activation makes of it: a commit is told and enters the order, and that it closes is told; all else stays
pub record ToldAfterEnd (activation : ℕ) (end : TurnEnd) (old new : Told) : Type 0 where
  pub others : new ≡ record old { closed = turn_closes end; printed = new.printed; order = new.order }
  pub printed : KeepsPrinted end old.printed new.printed
  pub ordered : EntersOrder activation end old.order new.order

-- what is seen of one that tells this and shows so
abbrev pub seen : Told → (shows : List ℕ → Desk → Type 0) → View
seen told shows = view told.closed told.order shows

-- From each desk that was shown over the bytes that are told, where these are sure, one whose opening set this took an event, as its answer tells of that
-- desk, and is seen so since; and of the store's number then this holds.
abbrev pub Takes : {W : Type 0} → Ghosts W → Event → (Desk → Happening) → (ℕ → Type 0) → Fixed → (List ℕ → Desk → Type 0) → View → W → W → Type 0
Takes G event told numbered fixed shows now before after =
    (desk : Desk) → IsSure G before → shows (held_of G before) desk
    → (did : TookEvent G (told_event fixed event (told desk)) now desk before after) × numbered (number_after fixed.opened did.next)

-- this is so of each desk that is shown, over whichever bytes
abbrev pub OfShown : (shows : List ℕ → Desk → Type 0) → (Desk → Type 0) → Type 0
OfShown shows P = (held : List ℕ) (desk : Desk) → shows held desk → P desk

-- What each call does with a supervisor that shows desks so and tells this of itself, and with its outside.
module _ {D : Type 0} (shows : D → List ℕ → Desk → Type 0) (says : D → Told) where
  -- A program begins: each desk that was shown takes the step that the answer tells of, and the one after it is shown. One number more is given at most.
  pub record HasBegun (program : ℕ) (args : List ℕ) (old new : D) (answer : Begun) : Type 0 where
    pub did : (held : List ℕ) (desk : Desk) → shows old held desk → (next : Desk) × (step (says old).fixed.programs (event.Begin program args) Fine desk ≡ record { desk = next; happening = begun_told program answer }) × shows new held next
    pub shut : StaysShut (says old).closed (answer ≡ begun.Shut) (new ≡ old)
    pub told : says new ≡ record (says old) { given = (says new).given }
    pub given : (says new).given ≤ (says old).given + 1

  module _ {W : Type 0} (G : Ghosts W) where
    -- a turn is taken as its answer tells, with the writes and the faults that this tells of, and is counted
    pub record HasTurned (activation limit : ℕ) (old new : D) (before after : W) (answer : Turn) : Type 0 where
      pub did : Takes G (event.Turn activation limit) (λ desk. turn_told activation answer (says new).printed) (HasNumbers answer.end activation) (says old).fixed (shows old) (seen (says new) (shows new)) before after
      pub writes : WritesMore (G.writes before) (G.writes after) (writes_due answer.end)
      pub shut : StaysShut (says old).closed (answer.end ≡ end.Shut) ((new ≡ old) × (after ≡ before))
      pub told : ToldAfterEnd activation answer.end (record (says old) { turns = (says new).turns }) (says new)
      pub turns : (says new).turns ≤ (says old).turns + 1
      pub failed : FailsCounted (turn_fails answer.end) (G.disk_faults before) (G.disk_faults after)
      pub calls : CallsStore G (says new).fixed.header before after

    -- a checkpoint is taken so: no write is undone, and only whether it is closed changes of what is told
    pub record HasStored (old new : D) (before after : W) (answer : Stored) : Type 0 where
      pub did : Takes G event.Checkpoint (λ desk. stored_told answer) (StoredNumber answer) (says old).fixed (shows old) (seen (says new) (shows new)) before after
      pub writes : WritesMore (G.writes before) (G.writes after) 0
      pub shut : StaysShut (says old).closed (answer ≡ stored.Shut) ((new ≡ old) × (after ≡ before))
      pub told : says new ≡ record (says old) { closed = stored_closes answer }
      pub failed : FailsCounted (stored_fails answer) (G.disk_faults before) (G.disk_faults after)
      pub calls : CallsStore G (says new).fixed.header before after

    -- a crash is taken so: the disk is asked one sync at most, and read, and the answer is what its bytes hold
    pub record HasCrashed (old new : D) (before after : W) (answer : Reopened) : Type 0 where
      pub did : Takes G event.Crash (λ desk. reopened_told (numbers desk) answer) (IsReopened answer) (says old).fixed (shows old) (seen (says new) (shows new)) before after
      pub shut : StaysShut (says old).closed (answer ≡ reopened.Shut) ((new ≡ old) × (after ≡ before))
      pub told : says new ≡ record (says old) { closed = reopened_closes answer }
      pub failed : FailsCounted (reopened_fails answer) (G.disk_faults before) (G.disk_faults after)
      pub damage : IsDamage G (says old).fixed.header before answer
      pub asks : OnlyOpens G before after
