-- Runs of the desk that a supervisor shows, with what they put.
use Rattle.std.specs.Prelude.{◌≡◌, ℕ, ◌*◌, ◌⊎◌, count_by, Bool, true, List, [], ◌∷◌, ◌++◌, length, map, Option, Result, IsSome, slice_set}
use Rattle.schedule_replay.specs.Below.{Desk, Doubt, Elapses, Event, Failed, faulted, flat_map, Ghosts, Happening, happening_lines, held_of, is_commit, IsLeft, IsStage, IsSure, Leaves, ReportLine, line_text, number_after, OpenBeforeEach, Prints, seen, stands, tells_fault, DiskWord, WritesMore}
use Rattle.desk.specs.declared.supervisor.Supervisor as desk
use Rattle.desk.specs.Crash.{TookEvent, View, standing_of, fine_step}
use Rattle.schedule_replay.specs.LinesPut.{BeginsWith, PutsTimes, shown_on}
use Rattle.schedule_replay.specs.RanTo.{RanTo}
use Rattle.schedule_replay.specs.RunAsks.{happened, RunAsks}
use Rattle.schedule_replay.specs.Runs.{Opening, Interval, run_end, lines_of}

-- what is seen of a supervisor
abbrev pub view_by : {D : Type 0} → desk.Ghosts D → D → View
view_by S desk = seen (S.told desk) (S.shows desk)

-- the bytes that are told are sure, and over them the supervisor is this desk, which was opened with the number that it tells
pub record HasOpened {D W : Type 0} (S : desk.Ghosts D) (G : Ghosts W) (desk : D) (outside : W) (start : Desk) : Type 0 where
  pub sure : IsSure G outside
  pub shows : S.shows desk (held_of G outside) start
  pub number : number_after (S.told desk).fixed.opened start ≡ (S.told desk).fixed.opened

-- the lines of all events but the last, if there is one, are printed whole
abbrev pub PrintsEarlier : (before now : Option (List ℕ)) → (List (Event × DiskWord) → List ℕ) → List (Event × DiskWord) → Type 0
PrintsEarlier before now text taken =
    (taken ≡ []) ⊎ ((front : List (Event × DiskWord)) × (last : Event × DiskWord) × (taken ≡ front ++ last ∷ []) × BeginsWith before now (text front))

-- where the last of these events ended in doubt and closed the desk, this holds of those before it and of it
abbrev pub IfInDoubt : List (Event × DiskWord) → (closed : Bool) → (List (Event × DiskWord) → Event → Type 0) → Type 0
IfInDoubt taken closed P = closed ≡ true → (front : List (Event × DiskWord)) (event : Event) → taken ≡ front ++ (event, Doubt) ∷ [] → P front event

-- behind these events one ended in doubt: there is one place with whose byte each image stands for where it goes well
abbrev pub InDoubt : {W : Type 0} → Ghosts W → Opening → List (Event × DiskWord) → Event → W → Type 0
InDoubt G opening front event after =
    ((fine_step opening.programs event (run_end opening front)).order ≡ (run_end opening (front ++ (event, Doubt) ∷ [])).order)
    × ((gate : ℕ) × Leaves G (λ image seen. stands (slice_set image gate 165) ≡ standing_of opening.number (fine_step opening.programs event (run_end opening front))) after after)

-- the text of a run's events
abbrev pub run_text : Opening → List (Event × DiskWord) → List ℕ
run_text opening taken = flat_map line_text (lines_of opening taken)

-- An event was a step of the desk with which this begins, and these are the lines of what happened at it. Two writes for each commit line succeeded, and
-- the disk's count of faults stays where no line tells of one.
pub record WasStep {D W : Type 0} (S : desk.Ghosts D) (G : Ghosts W) (opening : Opening) (event : Event) (lines : List ReportLine) (new : D) (span : Interval W) : Type 0 where
  pub told : Happening
  pub did : TookEvent G (record { programs = opening.programs; number = opening.number; event = event; told = told }) (view_by S new) opening.start span.before span.after
  pub lines_are : lines ≡ happening_lines opening.names (number_after opening.number did.next) told
  pub writes : WritesMore (G.writes span.before) (G.writes span.after) (2 * count_by is_commit lines)
  pub calm : count_by tells_fault lines ≡ 0 → G.disk_faults span.after ≡ G.disk_faults span.before

-- Events were run from an opening, each with a word, and their lines put. What was asked of the disk is what what happened asks. The image that a crash since the start left is one of the run, and where printed
-- bytes are told it lacks no commit that was seen by then, and has at most one more.
pub record Ran {D W : Type 0} (S : desk.Ghosts D) (G : Ghosts W) (opening : Opening) (events : List Event) (new : D) (span : Interval W) {T : Type 0} (result : Result T Failed) : Type 0 where
  pub taken : List (Event × DiskWord)
  pub events_taken : map (λ event. event.0) taken ≡ events
  pub each_open : OpenBeforeEach opening.programs taken opening.start
  pub to : RanTo S G (run_end opening taken) (lines_of opening taken) (faulted taken) new span
  pub deeds : RunAsks G (happened opening.programs taken opening.start) span.before span.after
  pub printed : Prints (G.printed span.before) (G.printed span.after) (run_text opening taken) result
  pub times : PutsTimes G (length (lines_of opening taken)) span.before span.after result
  pub earlier : PrintsEarlier (G.printed span.before) (G.printed span.after) (λ front. run_text opening front) taken
  pub time : Elapses G.moment G.left_since span.before span.after
  pub images : Leaves G (λ image seen. IsStage opening.programs opening.number opening.start taken image) span.before span.after
  pub left : IsSome (G.printed span.before) → Leaves G (IsLeft opening.programs opening.number opening.start taken (run_text opening taken) (shown_on G span.before)) span.before span.after
  pub doubt : IfInDoubt taken (run_end opening taken).closed (λ front event. InDoubt G opening front event span.after)
