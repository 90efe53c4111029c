-- What an event did: its step, why its word isn't fine, and what the disk held at each moment of it.
use Rattle.std.specs.Prelude.{◌≡◌, ℕ, ◌⊎◌, Bool, true, false, List, slice_set}
use Rattle.desk.specs.Below.{Ghosts, held_of, IsSure, Leaves, Program, Rose, Standing, Stands, stands}
use Rattle.desk.specs.declared.event.Event.{Event}
use Rattle.desk.specs.Asked.{EventAsks}
use Rattle.desk.specs.Calls.{Fixed}
use Rattle.desk.specs.Desk.{Desk}
use Rattle.desk.specs.Instruction.{DiskWord, Fine, Doubt}
use Rattle.desk.specs.Kept.{JournalAfter, journal_in}
use Rattle.desk.specs.Run.{Happening, step}
use Rattle.desk.specs.Report.{number_after}
use Rattle.outside.specs.Deeds.{Since}

-- what a disk of a desk that opened with a number stands for
abbrev pub standing_of : ℕ → Desk → Standing
standing_of number desk = Stands (number_after number desk) desk.committed

-- the desk after an event that went well
abbrev pub fine_step : List Program → Event → Desk → Desk
fine_step programs event desk = (step programs event Fine desk).desk

-- An image stands for what stood before the event, or, where the order is that of the event gone well, for what stands then.
abbrev pub IsEitherOf : List Program → ℕ → Event → Desk → Desk → List ℕ → Type 0
IsEitherOf programs number event old new image =
    (stands image ≡ standing_of number old)
    ⊎ ((fine_step programs event old).order ≡ new.order) × (stands image ≡ standing_of number (fine_step programs event old))

-- an event of a desk that has these programs and opened with this number, and what is told that happened at it
pub record ToldEvent : Type 0 where
  pub programs : List Program
  pub number : ℕ
  pub event : Event
  pub told : Happening

-- an event of a desk whose opening set this
abbrev pub told_event : Fixed → Event → Happening → ToldEvent
told_event fixed event told = record { programs = fixed.programs; number = fixed.opened; event = event; told = told }

-- what is seen of a supervisor: whether it is closed, its commits in order, and which desk it is over which bytes
pub record View : Type 1 where
  pub closed : Bool
  pub order : List (ℕ × ℕ)
  pub shows : List ℕ → Desk → Type 0

-- these three as one
abbrev pub view : Bool → List (ℕ × ℕ) → (List ℕ → Desk → Type 0) → View
view closed order shows = record { closed = closed; order = order; shows = shows }

-- A supervisor took an event, which was a step of the desk with a word, which isn't fine only where the disk's faults rose. It is seen since as that
-- step left the desk. It asked of the disk what what happened asks, and nothing else. While the desk is open, its bytes are sure and shown, and their journal is what what happened makes of the one before. A crash
-- in the event leaves what stood before it or after it; where a commit in doubt closed the desk there is one place with whose byte the commit stands.
pub record TookEvent {W : Type 0} (G : Ghosts W) (this : ToldEvent) (seen : View) (desk : Desk) (before after : W) : Type 0 where
  pub word : DiskWord
  pub next : Desk
  pub stepped : step this.programs this.event word desk ≡ record { desk = next; happening = this.told }
  pub why : (word ≡ Fine) ⊎ Rose (G.disk_faults before) (G.disk_faults after)
  pub closes : seen.closed ≡ next.closed
  pub ordered : seen.order ≡ next.order
  pub still : next.closed ≡ false → IsSure G after × seen.shows (held_of G after) next
  pub deeds : Since (G.deeds before) (G.deeds after) (EventAsks (held_of G before) this.told)
  pub journal : next.closed ≡ false → JournalAfter this.told (journal_in (held_of G before)) (journal_in (held_of G after))
  pub crash : Leaves G (λ image seen. IsEitherOf this.programs this.number this.event desk next image) before after
  pub doubt : word ≡ Doubt → next.closed ≡ true → ((fine_step this.programs this.event desk).order ≡ next.order) × ((gate : ℕ) × Leaves G (λ image seen. stands (slice_set image gate 165) ≡ standing_of this.number (fine_step this.programs this.event desk)) after after)
