-- What running events without a report did.
use Rattle.std.specs.Prelude.{◌≡◌, ℕ, ◌+◌, ◌≤◌, count_by, Bool, true, false, List, [], ◌∷◌, ◌++◌, map, Option, None, Some, IfSome, Result, Ok}
use Rattle.schedule_replay.specs.Below.{Begun, CallsDisk, Crash, Desk, Event, Failed, faulted, fold, Ghosts, held_of, is_commit, IsStage, IsSure, Leaves, ReportLine, OpenBeforeEach, Stored, TurnEnd, DiskWord}
use Rattle.desk.specs.declared.answers.Begun.TheVariants as begun
use Rattle.desk.specs.declared.answers.Stored.TheVariants as stored
use Rattle.desk.specs.declared.answers.TurnEnd.TheVariants as end
use Rattle.desk.specs.declared.supervisor.Supervisor as desk
use Rattle.desk.specs.ReportLines as line
use Rattle.schedule_replay.specs.declared.events.Going.{Going}
use Rattle.schedule_replay.specs.declared.events.Going.TheVariants as going
use Rattle.schedule_replay.specs.declared.quietly.Quiet.{Quiet}
use Rattle.schedule_replay.specs.declared.quietly.Quiet.TheVariants as quiet
use Rattle.schedule_replay.specs.declared.quietly.QuietTally.{QuietTally}
use Rattle.schedule_replay.specs.Answered.{Answered, GoesBy, GoesShut, is_closed}
use Rattle.schedule_replay.specs.Ran.{IfInDoubt, InDoubt, WasStep}
use Rattle.schedule_replay.specs.RanTo.{RanTo}
use Rattle.schedule_replay.specs.Runs.{Opening, Interval, run_end, lines_of, opening_of, span}

-- no put failed
abbrev pub unput : Result ℕ Failed
unput = Ok 0

-- an event that is no crash
abbrev pub IsLasting : Event → Type 0
IsLasting Crash = ⊥
IsLasting _ = Unit {0}

-- whether a line tells of a rollback: of a check, of a record without room, of a page that can't be read, or of a victim
abbrev pub is_rollback : ReportLine → Bool
is_rollback (line.Check activation code address) = true
is_rollback (line.Journal activation lines limit) = true
is_rollback (line.Disk activation) = true
is_rollback (line.Victim activation) = true
is_rollback _ = false

-- what the last commit printed after one line more
abbrev pub out_after : List ℕ → ReportLine → List ℕ
out_after last (line.Commit activation number steps out) = out
out_after last _ = last

-- a tally is that of lines: how many commits and how many rollbacks they tell of, and what the last commit printed, after what one before had
pub record TallyTells (tally : QuietTally) (old new : List ℕ) (lines : List ReportLine) : Type 0 where
  pub commits : tally.commits ≡ count_by is_commit lines
  pub rollbacks : tally.rollbacks ≡ count_by is_rollback lines
  pub last : new ≡ fold out_after old lines

-- the tally of a turn that ended so, behind the victims of so many cycles; none where the desk is closed
abbrev pub tally_by : TurnEnd → (victims : ℕ) → Option QuietTally
tally_by end.Idle victims = Some (record { commits = 0; rollbacks = 0 })
tally_by end.Limit victims = Some (record { commits = 0; rollbacks = victims })
tally_by (end.Committed number steps) victims = Some (record { commits = 1; rollbacks = victims })
tally_by (end.Checked code address) victims = Some (record { commits = 0; rollbacks = victims + 1 })
tally_by (end.Waits activation holders) victims = Some (record { commits = 0; rollbacks = victims })
tally_by end.Victim victims = Some (record { commits = 0; rollbacks = victims })
tally_by (end.Journal lines limit) victims = Some (record { commits = 0; rollbacks = victims + 1 })
tally_by end.Disk victims = Some (record { commits = 0; rollbacks = victims + 1 })
tally_by (end.Closed doubt number) victims = None
tally_by end.Shut victims = None

-- the tally of a begin, and that of a checkpoint
abbrev pub tally_begun : Begun → Option QuietTally
tally_begun begun.Shut = None
tally_begun _ = Some (record { commits = 0; rollbacks = 0 })

abbrev pub tally_stored : Stored → Option QuietTally
tally_stored (stored.Number number) = Some (record { commits = 0; rollbacks = 0 })
tally_stored _ = None

-- what the last commit printed after a turn that ended so
abbrev pub last_by : TurnEnd → (printed last : List ℕ) → List ℕ
last_by (end.Committed number steps) printed last = printed
last_by _ printed last = last

-- one event makes few of both
abbrev pub IsSmall : QuietTally → Type 0
IsSmall tally = (tally.commits ≤ 1) × (tally.rollbacks ≤ 17)

-- how it goes on by whether there is a tally
abbrev pub going_told : Option QuietTally → Going
going_told None = going.Closed
going_told (Some tally) = going.On

-- how it went on in the end
abbrev pub going_of : Quiet → Going
going_of (quiet.Ended commits rollbacks) = going.On
going_of quiet.Closed = going.Closed

-- an event was a step of the desk, and what it came to is told, where it left the desk open
pub record WentQuietly {D W : Type 0} (S : desk.Ghosts D) (G : Ghosts W) (opening : Opening) (event : Event) (new : D) (span : Interval W) (old_last new_last : List ℕ) (tally : Option QuietTally) : Type 0 where
  pub lines : List ReportLine
  pub step : WasStep S G opening event lines new span
  pub tells : IfSome tally (λ tally. TallyTells tally old_last new_last lines)

-- Events were run from a desk, each with a word, and nothing was put: what `Ran` says but for its lines, which nobody sees. The image that
-- a crash since the start left is one of the run, whatever was printed before.
pub record RanQuietly {D W : Type 0} (S : desk.Ghosts D) (G : Ghosts W) (opening : Opening) (events : List Event) (new : D) (span : Interval W) : Type 0 where
  pub taken : List (Event × DiskWord)
  pub events_taken : map (λ event. event.0) taken ≡ events
  pub each_open : OpenBeforeEach opening.programs taken opening.start
  pub to : RanTo S G (run_end opening taken) (lines_of opening taken) (faulted taken) new span
  pub images : Leaves G (λ image seen. IsStage opening.programs opening.number opening.start taken image) span.before span.after
  pub doubt : IfInDoubt taken (run_end opening taken).closed (λ front event. InDoubt G opening front event span.after)

-- the counts of a run that ended, and what its last commit printed, are those of its lines
abbrev pub TellsAll : Quiet → (last : List ℕ) → List ReportLine → Type 0
TellsAll (quiet.Ended commits rollbacks) last lines = TallyTells (record { commits = commits; rollbacks = rollbacks }) [] last lines
TellsAll quiet.Closed last lines = Unit {0}

-- whether the desk is closed in the end
abbrev pub is_shut : Quiet → Bool
is_shut (quiet.Ended commits rollbacks) = false
is_shut quiet.Closed = true

-- There is one run of the first of the events from the desk that was shown, and all events were run where it is open in the end. Its
-- counts are those of its lines.
pub record RunsQuietly {D W : Type 0} (S : desk.Ghosts D) (G : Ghosts W) (opening : Opening) (events : List Event) (new : D) (span : Interval W) (last : List ℕ) (quiet : Quiet) : Type 0 where
  pub front : List Event
  pub rest : List Event
  pub whole : front ++ rest ≡ events
  pub ran : RanQuietly S G opening front new span
  pub tells : TellsAll quiet last (lines_of opening ran.taken)
  pub closed : (S.told new).closed ≡ is_shut quiet
  pub all : is_shut quiet ≡ false → rest ≡ []

module _ {D W : Type 0} (S : desk.Ghosts D) (G : Ghosts W) (old new : D) (before after : W) where
  -- What running events quietly did. From sure bytes over which a desk is shown: what was run, its counts, and what a crash left at any moment.
  pub record HasRunQuietly (events : List Event) (last : List ℕ) (quiet : Quiet) : Type 0 where
    pub runs : (start : Desk) → IsSure G before → S.shows old (held_of G before) start → RunsQuietly S G (opening_of [] (S.told old).fixed start) events new (span before after) last quiet
    pub goes : GoesBy S G old new before after (going_of quiet)
    pub shut : (S.told old).closed ≡ true → GoesShut events (going_of quiet)
    pub calls : CallsDisk G before after
    pub answered : Answered S G events old new before after unput

  -- what one event keeps, how it goes on, and that few were counted
  pub record KeepsQuietly (event : Event) (tally : Option QuietTally) : Type 0 where
    pub answered : Answered S G (event ∷ []) old new before after unput
    pub goes : GoesBy S G old new before after (going_told tally)
    pub shut : (S.told old).closed ≡ true → tally ≡ None
    pub calls : CallsDisk G before after
    pub closed : (S.told new).closed ≡ is_closed (going_told tally)
    pub small : IfSome tally IsSmall

  -- and what it did
  pub record HasGoneQuietly (event : Event) (old_last new_last : List ℕ) (tally : Option QuietTally) : Type 0 where
    pub kept : KeepsQuietly event tally
    pub went : (start : Desk) → IsSure G before → S.shows old (held_of G before) start → WentQuietly S G (opening_of [] (S.told old).fixed start) event new (span before after) old_last new_last tally
