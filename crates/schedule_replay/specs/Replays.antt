-- What replaying a schedule did.
use Rattle.std.specs.Prelude.{◌≡◌, ℕ, length, Bool, true, false, List, [], ◌∷◌, ◌++◌, map, Result, IfOk, IsSome}
use Rattle.schedule_replay.specs.Below.{Begun, closing_lines, Desk, End, Event, Failed, faulted, Ghosts, held_of, IsLeft, IsRunOf, IsStage, IsSure, Leaves, Left, line_text, OfShown, OnlyPuts, Open, Prints, Reopened, DiskWord}
use Rattle.desk.specs.declared.answers.Begun.TheVariants as begun
use Rattle.desk.specs.declared.answers.Reopened.TheVariants as reopened
use Rattle.desk.specs.declared.supervisor.Supervisor as desk
use Rattle.schedule_replay.specs.declared.events.Going.{Going}
use Rattle.schedule_replay.specs.declared.events.Going.TheVariants as going
use Rattle.schedule_replay.specs.declared.events.Replayed.{Replayed}
use Rattle.schedule_replay.specs.declared.events.Replayed.TheVariants as replayed
use Rattle.schedule_replay.specs.Answered.{Answered, GoesBy, GoesShut, is_closed, way_of}
use Rattle.schedule_replay.specs.LinesPut.{Puts, PutsTimes, shown_on}
use Rattle.schedule_replay.specs.Ran.{HasOpened, Ran, PrintsEarlier, IfInDoubt, InDoubt, run_text}
use Rattle.schedule_replay.specs.RanTo.{RanTo}
use Rattle.schedule_replay.specs.RunAsks.{happened, RunAsks}
use Rattle.schedule_replay.specs.Runs.{Opening, Interval, run_end, lines_of, opening_of, report_of, report_lines_of, span}
use Rattle.schedule_replay.specs.Told.{TellsLines, TellsReport, TellsSome}

-- whether it was an answer that the bytes are damaged
abbrev pub is_damaged : Going → Bool
is_damaged (going.Damaged offset) = true
is_damaged _ = false

-- how it goes on by whether the answer to a turn or a checkpoint says that it is closed
abbrev pub going_if : Bool → Going
going_if true = going.Closed
going_if false = going.On

-- how it goes on by the answer to a begin
abbrev pub going_begun : Begun → Going
going_begun begun.Shut = going.Closed
going_begun _ = going.On

-- how it goes on by the answer to a crash
abbrev pub going_by : Reopened → Going
going_by (reopened.Number number) = going.On
going_by (reopened.Damaged offset) = going.Damaged offset
going_by reopened.DiskFault = going.Closed
going_by reopened.Shut = going.Closed

-- One event was asked and its lines put: what that keeps, how it goes on, which lines they are, and the run of this event alone, from bytes that are
-- sure and show a desk, which are never found damaged.
pub record WentBy {D W : Type 0} (S : desk.Ghosts D) (G : Ghosts W) (names : List (List ℕ)) (event : Event) (old new : D) (span : Interval W) (result : Result Going Failed) : Type 0 where
  pub answered : Answered S G (event ∷ []) old new span.before span.after result
  pub goes : IfOk result (λ going. GoesBy S G old new span.before span.after going)
  pub shut : (S.told old).closed ≡ true → IfOk result (λ how. how ≡ going.Closed)
  pub ran : (start : Desk) → IsSure G span.before → S.shows old (held_of G span.before) start → Ran S G (opening_of names (S.told old).fixed start) (event ∷ []) new span result
  pub closed : IfOk result (λ going. (S.told new).closed ≡ is_closed going)
  pub undamaged : (start : Desk) → IsSure G span.before → S.shows old (held_of G span.before) start → IfOk result (λ going. is_damaged going ≡ false)
  pub tells : TellsLines G names (event ∷ []) (S.told old).order (S.told new).order span.before span.after result

-- The first of the events were run, and their lines put. All events were run where the desk goes on.
pub record RanSome {D W : Type 0} (S : desk.Ghosts D) (G : Ghosts W) (opening : Opening) (events : List Event) (new : D) (span : Interval W) (result : Result Going Failed) : Type 0 where
  pub front : List Event
  pub rest : List Event
  pub whole : front ++ rest ≡ events
  pub ran : Ran S G opening front new span result
  pub closed : IfOk result (λ going. (S.told new).closed ≡ is_closed going)
  pub sound : IfOk result (λ going. is_damaged going ≡ false)
  pub all : IfOk result (λ going. is_closed going ≡ false → rest ≡ [])

-- There is one run of the first of the events from the desk that was shown, which asked of the disk what what happened asks. Its report is put, a line by each put, or a prefix of it where
-- a put failed, which has the first line and those of all events but the last. A result says whether the desk is closed; all events were run where it
-- goes on. The image that a crash at any moment since the start left is one of the run, and where printed bytes are told it lacks no commit that was
-- seen by then, and has at most one more.
pub record Reports {D W : Type 0} (S : desk.Ghosts D) (G : Ghosts W) (opening : Opening) (events : List Event) (new : D) (span : Interval W) {T : Type 0} (shut : T → Bool) (result : Result T Failed) : Type 0 where
  pub taken : List (Event × DiskWord)
  pub rest : List Event
  pub is_run : IsRunOf opening.programs events opening.start taken rest
  pub to : RanTo S G (run_end opening taken) (lines_of opening taken) (faulted taken) new span
  pub deeds : RunAsks G (happened opening.programs taken opening.start) span.before span.after
  pub printed : Prints (G.printed span.before) (G.printed span.after) (report_of opening taken rest) result
  pub times : PutsTimes G (length (report_lines_of opening taken rest)) span.before span.after result
  pub earlier : PrintsEarlier (G.printed span.before) (G.printed span.after) (λ front. line_text (Open opening.number) ++ run_text opening front) taken
  pub closed : IfOk result (λ value. (S.told new).closed ≡ shut value)
  pub all : IfOk result (λ value. shut value ≡ false → rest ≡ [])
  pub images : Leaves G (λ image seen. IsStage opening.programs opening.number opening.start taken image) span.before span.after
  pub left : IsSome (G.printed span.before) → Leaves G (IsLeft opening.programs opening.number opening.start taken (report_of opening taken rest) (shown_on G span.before)) span.before span.after
  pub doubt : IfInDoubt taken (run_end opening taken).closed (λ front event. InDoubt G opening front event span.after)

-- The events were replayed: to the end, to the one that closed the desk, or to the one in whose report a put failed. Bytes that are sure
-- and shown are never found damaged.
abbrev pub Replays : {D W : Type 0} → desk.Ghosts D → Ghosts W → Opening → List Event → D → Interval W → Replayed → Type 0
Replays S G opening events new span (replayed.Damaged offset) = ⊥
Replays S G opening events new span how = Reports S G opening events new span is_closed (way_of how)

module _ {D W : Type 0} (S : desk.Ghosts D) (G : Ghosts W) (names : List (List ℕ)) (events : List Event) (old new : D) (before after : W) where
  -- What putting a report did. From sure bytes over which a desk is shown: what was run, that its report was printed, or a prefix after a failed put,
  -- what a crash left at any moment, and that no damage is found. Whatever stands on the disk: what was printed are the lines of the answers.
  pub record HasReported (result : Result Going Failed) : Type 0 where
    pub tells : TellsReport G names events (S.told old).order (S.told new).order before after is_closed result
    pub reports : (start : Desk) → HasOpened S G old before start → Reports S G (opening_of names (S.told old).fixed start) events new (span before after) is_closed result
    pub undamaged : (start : Desk) → HasOpened S G old before start → IfOk result (λ going. is_damaged going ≡ false)
    pub goes : IfOk result (λ going. GoesBy S G old new before after going)
    pub shut : (S.told old).closed ≡ true → IfOk result (GoesShut events)
    pub answered : Answered S G events old new before after result

  -- what the first of the events and their lines did, up to the one that closed the desk: the same, but for the lines around them
  pub record HasPutEvents (result : Result Going Failed) : Type 0 where
    pub tells : TellsSome G names events (S.told old).order (S.told new).order before after is_closed result
    pub answered : Answered S G events old new before after result
    pub goes : IfOk result (λ going. GoesBy S G old new before after going)
    pub shut : (S.told old).closed ≡ true → IfOk result (GoesShut events)
    pub ran : (start : Desk) → IsSure G before → S.shows old (held_of G before) start → RanSome S G (opening_of names (S.told old).fixed start) events new (span before after) result

-- Only lines of an end are put, and where a desk is shown these are its closing lines.
pub record PutsClosing {D W : Type 0} (S : desk.Ghosts D) (G : Ghosts W) (desk : D) (before after : W) {T : Type 0} (result : Result T Failed) : Type 0 where
  pub only : OnlyPuts G before after result
  pub some : (left : List ℕ) × (number : ℕ) × Puts G (map Left left ++ End number ∷ []) before after result
  pub puts : OfShown (S.shows desk) (λ start. Puts G (closing_lines (S.told desk).fixed.opened [] start) before after result)
