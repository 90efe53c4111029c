-- What is put of events that are answered, whatever stands on the disk: the lines of the answers, and the order that these tell of.
use Rattle.std.specs.Prelude.{◌≡◌, ◌⊎◌, ℕ, Bool, true, false, List, [], ◌∷◌, ◌++◌, length, map, take, Result, IfOk}
use Rattle.schedule_replay.specs.Below.{Begun, begun_told, End, Event, Failed, flat_map, Ghosts, Happening, happening_lines, Left, ReportLine, line_text, Open, Prints, PutsTimes, Reopened, reopened_told, Stored, stored_told, Turn, turn_told}
use Rattle.desk.specs.declared.event.Event.TheVariants as event
use Rattle.desk.specs.Instruction as turn
use Rattle.desk.specs.Run as run
use Rattle.schedule_replay.specs.declared.events.Replayed.{Replayed}
use Rattle.schedule_replay.specs.Answered.{is_closed, way_of}

-- an answer to the event tells that this happened
abbrev pub IsToldOf : Event → Happening → Type 0
IsToldOf (event.Begin program args) told = (answer : Begun) × (told ≡ begun_told program answer)
IsToldOf (event.Turn activation limit) told = (answer : Turn) × (printed : List ℕ) × (told ≡ turn_told activation answer printed)
IsToldOf event.Checkpoint told = (answer : Stored) × (told ≡ stored_told answer)
IsToldOf event.Crash told = (lost : List ℕ) × (answer : Reopened) × (told ≡ reopened_told lost answer)

-- a commit, and one in doubt, enters the order with its activation, and nothing else that happens changes it
abbrev pub Enters : Happening → (old new : List (ℕ × ℕ)) → Type 0
Enters (run.Turned activation counts (turn.Committed steps out)) old new = new ≡ old ++ (activation, steps) ∷ []
Enters (run.Turned activation counts turn.CommitDoubted) old new = (steps : ℕ) × (new ≡ old ++ (activation, steps) ∷ [])
Enters _ old new = new ≡ old

-- these are the lines of what answers to these events tell, one after another, with these names, and what happened made the one order the other
abbrev pub AreLinesOf : List (List ℕ) → List Event → List ReportLine → (old new : List (ℕ × ℕ)) → Type 0
AreLinesOf names [] lines old new = (lines ≡ []) × (new ≡ old)
AreLinesOf names (event ∷ events) lines old new =
    (told : Happening) × (number : ℕ) × (later : List ReportLine) × (between : List (ℕ × ℕ)) × IsToldOf event told × Enters told old between
    × (lines ≡ happening_lines names number told ++ later) × AreLinesOf names events later between new

-- Events were answered, and their lines put, each by one put; where a put failed, a prefix of their bytes is printed.
pub record TellsLines {W : Type 0} (G : Ghosts W) (names : List (List ℕ)) (events : List Event) (old new : List (ℕ × ℕ)) (before after : W) {T : Type 0} (result : Result T Failed) : Type 0 where
  pub lines : List ReportLine
  pub are : AreLinesOf names events lines old new
  pub printed : Prints (G.printed before) (G.printed after) (flat_map line_text lines) result
  pub times : PutsTimes G (length lines) before after result

-- the first of the events were, and all where it goes on
pub record TellsSome {W : Type 0} (G : Ghosts W) (names : List (List ℕ)) (events : List Event) (old new : List (ℕ × ℕ)) (before after : W) {T : Type 0} (shut : T → Bool) (result : Result T Failed) : Type 0 where
  pub count : ℕ
  pub tells : TellsLines G names (take count events) old new before after result
  pub all : IfOk result (λ value. shut value ≡ false → take count events ≡ events)

-- the lines of an end: one for each of some activations, and one with a number
abbrev pub AreOfEnd : List ReportLine → Type 0
AreOfEnd lines = (left : List ℕ) × (number : ℕ) × (lines ≡ map Left left ++ End number ∷ [])

-- What was put of a schedule: a line of the opening, those of the answers to the first events, and, where all were answered and the desk is open,
-- those of the end. Each was put by one put; where a put failed, a prefix of their bytes is printed.
pub record TellsReport {W : Type 0} (G : Ghosts W) (names : List (List ℕ)) (events : List Event) (old new : List (ℕ × ℕ)) (before after : W) {T : Type 0} (shut : T → Bool) (result : Result T Failed) : Type 0 where
  pub number : ℕ
  pub count : ℕ
  pub lines : List ReportLine
  pub are : AreLinesOf names (take count events) lines old new
  pub end : List ReportLine
  pub end_is : (end ≡ []) ⊎ AreOfEnd end
  pub none : IfOk result (λ value. shut value ≡ true → end ≡ [])
  pub all : IfOk result (λ value. shut value ≡ false → (take count events ≡ events) × AreOfEnd end)
  pub printed : Prints (G.printed before) (G.printed after) (flat_map line_text (Open number ∷ (lines ++ end))) result
  pub times : PutsTimes G (length (Open number ∷ (lines ++ end))) before after result

-- the same by how the events went
abbrev pub TellsBy : {W : Type 0} → Ghosts W → List (List ℕ) → List Event → (old new : List (ℕ × ℕ)) → (before after : W) → Replayed → Type 0
TellsBy G names events old new before after how = TellsReport G names events old new before after is_closed (way_of how)
