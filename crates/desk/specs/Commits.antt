-- The commits of a run, beside those of the same programs one after another.
use Rattle.std.specs.Prelude.{◌≡◌, ℕ, ◌+◌, ◌≤◌, ◌%◌, ◌^◌, Bool, true, false, List, [], ◌∷◌, ◌++◌, length, filter, Option, Some, None, slice_get}
use Rattle.desk.specs.Below.{Activation, committing, FlatStore, Plain, Program, serial}
use Rattle.desk.specs.declared.event.Event.{Event}
use Rattle.desk.specs.declared.event.Event.TheVariants.{Begin}
use Rattle.desk.specs.Desk.{opened}
use Rattle.desk.specs.Instruction.{DiskWord}
use Rattle.desk.specs.Run.{run, IsRunOf}
use Rattle.desk.specs.Report.{event_lines}
use Rattle.desk.specs.ReportLines as line
use Rattle.desk.specs.ReportLines.{ReportLine}

-- an activation of a program with its arguments, before later ones
abbrev pub begun_before : Option Program → (args : List ℕ) → List Activation → List Activation
begun_before None args later = later
begun_before (Some program) args later = record { program = program; args = args } ∷ later

-- the activations that the begins among events make, in order; a begin that is refused takes its number too
abbrev pub begun : List Program → List Event → List Activation
begun programs [] = []
begun programs (Begin program args ∷ events) = begun_before (slice_get programs program) args (begun programs events)
begun programs (_ ∷ events) = begun programs events

-- whether a line is that of a commit
abbrev pub is_commit : ReportLine → Bool
is_commit (line.Commit activation number steps out) = true
is_commit _ = false

-- the commit lines of a list of lines
abbrev pub commit_lines : List ReportLine → List ReportLine
commit_lines lines = filter is_commit lines

-- the line of a commit at its state, before those of later commits
abbrev pub line_before : (number : ℕ) → ℕ × ℕ → Option Plain → (Plain → List ReportLine) → List ReportLine
line_before number commit None later = []
line_before number commit (Some state) later = line.Commit commit.0 ((number + 1) % 2 ^ 64) commit.1 state.out ∷ later state

-- The commit lines of a serial run: that of each commit has its activation and steps, the number with which it begins plus one,
-- and the bytes that its program prints when it runs alone on what the commits before it left.
abbrev pub serial_lines : List Activation → (number : ℕ) → List (ℕ × ℕ) → FlatStore → List ReportLine
serial_lines activations number [] store = []
serial_lines activations number (commit ∷ commits) store =
    line_before number commit (committing activations commit store)
    (λ state. serial_lines activations (number + 1) commits (record store { bytes = state.store }))

-- The commits of a run, which began with a number on a store, are those of a serial run: its order is some commits and at most one in doubt
-- behind them, its committed store is the one that the commits leave one after another, and its commit lines are theirs.
pub record IsSerial (activations : List Activation) (number : ℕ) (store : FlatStore) (order : List (ℕ × ℕ)) (lines : List ReportLine) (committed : FlatStore) (closed : Bool) : Type 0 where
  pub done : List (ℕ × ℕ)
  pub doubt : List (ℕ × ℕ)
  pub order_is : order ≡ done ++ doubt
  pub leaves : serial activations done store ≡ Some committed
  pub one_doubt : length doubt ≤ 1
  pub none_open : closed ≡ false → doubt ≡ []
  pub with_doubt : (last : FlatStore) × (serial activations order store ≡ Some last)
  pub lines_are : commit_lines lines ≡ serial_lines activations number done store

-- The law: the commits of every run of a desk that has just opened are those of the activations of its events, one after another.
abbrev pub RunsAreSerial : Type 0
RunsAreSerial =
    (names : List (List ℕ)) (programs : List Program) (number frames most most_lines : ℕ) (store : FlatStore)
    (events : List Event) (taken : List (Event × DiskWord)) (rest : List Event)
    → IsRunOf programs events (opened frames most most_lines store) taken rest
    → IsSerial (begun programs events) number store (run programs taken (opened frames most most_lines store)).order
    (event_lines names programs number taken (opened frames most most_lines store))
    (run programs taken (opened frames most most_lines store)).committed (run programs taken (opened frames most most_lines store)).closed
