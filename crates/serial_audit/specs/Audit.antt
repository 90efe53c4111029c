-- A report whose commits are those of the programs run one after another.
use Rattle.std.specs.Prelude.{◌≡◌, ℕ, ◌+◌, ◌≤◌, ◌%◌, ◌^◌, ◌==◌, ◌⊎◌, if◌then◌else◌, List, ◌∷◌, ◌++◌, length, map, sum, Some}
use Rattle.serial_audit.specs.Below.{Activation, begun, committing, Contains, Event, FlatStore, Job, Plain, serial}
use Rattle.desk.specs.declared.event.Event.TheVariants.{Turn}
use Rattle.report_text.specs.declared.report_line.CommitLine.{CommitLine}
use Rattle.serial_audit.specs.declared.auditing.KeptStore.{KeptStore}
use Rattle.serial_audit.specs.declared.auditing.Verdict.{Verdict}
use Rattle.serial_audit.specs.declared.auditing.Verdict.TheVariants.{Serial, NotSerial}

-- what a commit line tells
pub record ToldLine : Type 0 where
  pub activation : ℕ
  pub number : ℕ
  pub steps : ℕ
  pub out : List ℕ

-- what a value of the code tells
abbrev pub line_claim : CommitLine → ToldLine
line_claim line = record { activation = line.activation; number = line.number; steps = line.steps; out = line.out.items }

-- what commit lines tell, in their order
abbrev pub report_told : List CommitLine → List ToldLine
report_told lines = map line_claim lines

-- the activations that a job's begins make
abbrev pub activations_of : Job → List Activation
activations_of job = begun job.programs.items job.events.items

-- the limit of a turn of an activation, and 0 of any other event
abbrev pub limit_of : ℕ → Event → ℕ
limit_of activation (Turn other limit) = if activation == other then limit else 0
limit_of activation _ = 0

-- how many steps an activation's turns allow in all
abbrev pub steps_allowed : Job → ℕ → ℕ
steps_allowed job activation = sum (map (limit_of activation) job.events.items)

-- the store of a kept one, by its directory
abbrev pub flat_of : KeptStore → FlatStore
flat_of kept = record { directory = kept.directory; bytes = kept.store.items }

-- an activation and its steps
abbrev pub pair_of : ToldLine → ℕ × ℕ
pair_of told = (told.activation, told.steps)

-- A commit line behind others is sound: its number is the one that follows; no commit line before it has its activation; its steps are
-- within those that the activation's turns allow; and on the store that the commits before it leave one after another, the activation
-- commits with just these steps, having printed just these bytes. That it began is part of that.
pub record IsLineSound (job : Job) (opening : KeptStore) (before : List ToldLine) (told : ToldLine) : Type 0 where
  pub number : told.number ≡ (opening.number + (length before + 1)) % 2 ^ 64
  pub first : ¬ (Contains (map (λ earlier. earlier.activation) before) told.activation)
  pub allowed : told.steps ≤ steps_allowed job told.activation
  pub left : FlatStore
  pub leaves : serial (activations_of job) (map pair_of before) (flat_of opening) ≡ Some left
  pub state : Plain
  pub commits : committing (activations_of job) (pair_of told) left ≡ Some state
  pub prints : told.out ≡ state.out

-- each of these commit lines is sound behind those before it
abbrev pub AreSound : Job → KeptStore → List ToldLine → Type 0
AreSound job opening lines =
    (before : List ToldLine) (told : ToldLine) (behind : List ToldLine) → lines ≡ before ++ told ∷ behind → IsLineSound job opening before told

-- A report is serial: all its commit lines are sound, and the closing store has the directory of the opening one, as its number the
-- opening one and as many commits more, and the bytes that the commits leave one after another.
pub record IsReportSerial (job : Job) (opening closing : KeptStore) (lines : List ToldLine) : Type 0 where
  pub sound : AreSound job opening lines
  pub directory : closing.directory ≡ opening.directory
  pub number : closing.number ≡ (opening.number + length lines) % 2 ^ 64
  pub store : serial (activations_of job) (map pair_of lines) (flat_of opening) ≡ Some (flat_of closing)

-- the commit line with this number, counted from 1, is the first that isn't sound
pub record IsFirstUnsound (job : Job) (opening : KeptStore) (lines : List ToldLine) (number : ℕ) : Type 0 where
  pub before : List ToldLine
  pub told : ToldLine
  pub behind : List ToldLine
  pub lines_are : lines ≡ before ++ told ∷ behind
  pub place : number ≡ length before + 1
  pub sound : AreSound job opening before
  pub unsound : ¬ (IsLineSound job opening before told)

-- the answer of an audit: serial; or the first commit line that isn't sound; or, where all are and the report isn't serial, their number and one more
abbrev pub IsVerdict : Job → KeptStore → KeptStore → List ToldLine → Verdict → Type 0
IsVerdict job opening closing lines Serial = IsReportSerial job opening closing lines
IsVerdict job opening closing lines (NotSerial number) =
    IsFirstUnsound job opening lines number
    ⊎ ((number ≡ length lines + 1) × AreSound job opening lines × (¬ (IsReportSerial job opening closing lines)))
