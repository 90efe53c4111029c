-- What a supervisor and an outside are before and after events.
use Rattle.std.specs.Prelude.{◌≡◌, ◌+◌, ◌^◌, ◌<◌, ◌≤◌, Bool, true, false, List, [], length, All, Result, Ok, Err, IsSome, ℕ}
use Rattle.schedule_replay.specs.Below.{chosen, Elapses, Event, Failed, FailsOnlyCounted, Ghosts, held_of, HoldsStore, Rose, StillTold, Told}
use Rattle.store_format.specs.Bank.{Faulty, bank_of}
use Rattle.desk.specs.declared.supervisor.Supervisor as desk
use Rattle.schedule_replay.specs.declared.events.Going.{Going}
use Rattle.schedule_replay.specs.declared.events.Going.TheVariants as going
use Rattle.schedule_replay.specs.declared.events.Replayed.{Replayed}
use Rattle.schedule_replay.specs.declared.events.Replayed.TheVariants as replayed
use Rattle.schedule_replay.specs.Asked.{IsAsked, begins_in, turns_in}
use Rattle.arrayvec.specs.ArrayVec.{ArrayVec}
use Rattle.desk.specs.Seen.{IsUnbroken}

-- a supervisor that these events may be asked of, one after another
pub record MayBeAsked {D W : Type 0} (S : desk.Ghosts D) (G : Ghosts W) (events : List Event) (desk : D) (outside : W) : Type 0 where
  pub asked : All (IsAsked (length (S.told desk).fixed.programs)) events
  pub begins : (S.told desk).given + begins_in events ≤ (S.told desk).fixed.begins
  pub turns : (S.told desk).turns + turns_in events ≤ 2 ^ 32
  pub bytes : HoldsStore G (S.told desk).fixed.header outside

-- these events may be asked of it, and each of its programs has a name, which has no line feed
pub record CanReplay {D W : Type 0} (S : desk.Ghosts D) (G : Ghosts W) (named : List (ArrayVec ℕ)) (events : List Event) (desk : D) (outside : W) : Type 0 where
  pub ready : MayBeAsked S G events desk outside
  pub names : length (S.told desk).fixed.programs ≤ length named
  pub unbroken : All (λ name. IsUnbroken name.items) named

-- what events make of what a supervisor tells: its opening stays, and its counts rose by the begins and the turns among them at most
pub record ToldAfter (events : List Event) (old new : Told) : Type 0 where
  pub fixed : new.fixed ≡ old.fixed
  pub given : new.given ≤ old.given + begins_in events
  pub turns : new.turns ≤ old.turns + turns_in events

-- events were asked, and lines put: what the supervisor keeps and tells, and what the outside keeps
pub record Answered {D W : Type 0} (S : desk.Ghosts D) (G : Ghosts W) (events : List Event) (old new : D) (before after : W) {T : Type 0} (result : Result T Failed) : Type 0 where
  pub tells : ToldAfter events (S.told old) (S.told new)
  pub bytes : HoldsStore G (S.told new).fixed.header after
  pub honest : G.is_honest after ≡ G.is_honest before
  pub told : StillTold G before after
  pub time : Elapses G.moment G.left_since before after
  pub disk : G.disk_faults before ≤ G.disk_faults after
  pub cause : FailsOnlyCounted (G.put_faults before) (G.put_faults after) result

-- Whether the supervisor is closed, and why: one that was open closed where the disk's faults rose, or where the chosen bank of the bytes
-- that are told has a fault.
abbrev pub GoesBy : {D W : Type 0} → desk.Ghosts D → Ghosts W → D → D → W → W → Going → Type 0
GoesBy S G old new before after going.On = (S.told old).closed ≡ false → (S.told new).closed ≡ false
GoesBy S G old new before after going.Closed = ((S.told new).closed ≡ true) × ((S.told old).closed ≡ false → Rose (G.disk_faults before) (G.disk_faults after))
GoesBy S G old new before after (going.Damaged offset) = ((S.told new).closed ≡ true) × (IsSome (G.held after) → bank_of (held_of G after) (S.told old).fixed.header (chosen (held_of G after)) ≡ Faulty offset)

-- how a supervisor goes on that was closed before: it is closed where there is an event, and nothing was asked of it where there is none
abbrev pub GoesShut : List Event → Going → Type 0
GoesShut events going.On = events ≡ []
GoesShut events going.Closed = 0 < length events
GoesShut events (going.Damaged offset) = ⊥

-- whether it doesn't go on
abbrev pub is_closed : Going → Bool
is_closed going.On = false
is_closed _ = true

-- how it went on after a replay, or that a put failed
abbrev pub way_of : Replayed → Result Going Failed
way_of replayed.Ended = Ok going.On
way_of replayed.Closed = Ok going.Closed
way_of (replayed.Damaged offset) = Ok (going.Damaged offset)
way_of replayed.PutFault = Err (record {})
