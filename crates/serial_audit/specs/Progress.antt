-- What a job says of its activations, and how far commit lines are sound.
use Rattle.std.specs.Prelude.{◌≡◌, ℕ, ◌+◌, ◌≤◌, ◌%◌, ◌^◌, List, [], ◌∷◌, ◌++◌, length, map, Option, Some, None, ◌-◌, ◌==◌, ◌||◌, ◌↔◌, IsTrue, false, min, sum, slice_get, MatchOption, Result, option_map, ◌<◌, ◌≢◌, IfOk, MatchResult, IfSome}
use Rattle.serial_audit.specs.Below.{Activation, before_commit, Contains, FlatStore, Job, numbered, Plain, serial, Event, Layout, Program, byte_count, begun, All}
use Rattle.serial_audit.specs.declared.auditing.KeptStore.{KeptStore}
use Rattle.serial_audit.specs.declared.auditing.Progress.{Progress}
use Rattle.serial_audit.specs.Audit.{IsLineSound, ToldLine, activations_of, flat_of, pair_of, steps_allowed, limit_of, line_claim, AreSound, IsFirstUnsound}
use Rattle.serial_audit.specs.declared.index.Allowance.{Allowance}
use Rattle.report_text.specs.declared.report_line.CommitLine.{CommitLine}

-- the activation of an entry
abbrev pub activation_in : Allowance → Activation
activation_in entry = record { program = entry.program.now; args = entry.args }

-- The entry of the activation at a place among those of a job, behind some commit lines: its program and arguments, as many steps as its
-- turns allow, 2^64 - 1 at most, and whether one of the lines is its.
pub record IsEntry (job : Job) (before : List ToldLine) (place : ℕ) (entry : Allowance) : Type 0 where
  pub begun : slice_get (activations_of job) place ≡ Some (activation_in entry)
  pub steps : entry.steps ≡ min (steps_allowed job (place + 1)) (2 ^ 64 - 1)
  pub committed : IsTrue entry.committed ↔ Contains (map (λ earlier. earlier.activation) before) (place + 1)

-- the entry of the activation with a number
abbrev pub IsAllowanceOf : Job → List ToldLine → ℕ → Allowance → Type 0
IsAllowanceOf job before activation entry = (place : ℕ) × (place + 1 ≡ activation) × IsEntry job before place entry

-- each activation of a job has its entry, in the order of their numbers, and there are no others
abbrev pub IsIndex : Job → List ToldLine → List Allowance → Type 0
IsIndex job before entries =
    (place : ℕ) → MatchOption (slice_get entries place) (slice_get (activations_of job) place ≡ None) (IsEntry job before place)

-- an entry of no turn and no commit
pub record IsFresh (entry : Allowance) : Type 0 where
  pub steps : entry.steps ≡ 0
  pub uncommitted : entry.committed ≡ false

-- the entry at a place with the steps that its turns among these events allow
abbrev pub with_turns : List Event → ℕ → Allowance → Allowance
with_turns events place entry = record entry { steps = min (sum (map (limit_of (place + 1)) events)) (2 ^ 64 - 1) }

-- the entry at a place, marked if it is that of an activation
abbrev pub marked_if : ℕ → ℕ → Allowance → Allowance
marked_if activation place entry = record entry { committed = entry.committed || (place + 1 == activation) }

-- After commit lines a check stands at their last number and their count, an index of the job's activations behind them, and the store
-- that the commits leave one after another.
pub record Stands (job : Job) (opening : KeptStore) (before : List ToldLine) (progress : Progress) : Type 0 where
  pub number_is : progress.number ≡ (opening.number + length before) % 2 ^ 64
  pub commits_are : progress.commits ≡ length before
  pub index : IsIndex job before progress.entries.items
  pub leaves :
      serial (activations_of job) (map pair_of before) (flat_of opening)
      ≡ Some (record { directory = opening.directory; bytes = progress.store })

-- A commit line may follow others, as far as can be seen without a run: its number is the one that follows; no commit line before it has
-- its activation; its steps are within those that the activation's turns allow; and this is the activation.
pub record MayFollow (job : Job) (opening : KeptStore) (before : List ToldLine) (told : ToldLine) (activation : Activation) : Type 0 where
  pub number : told.number ≡ (opening.number + (length before + 1)) % 2 ^ 64
  pub first : ¬ (Contains (map (λ earlier. earlier.activation) before) told.activation)
  pub allowed : told.steps ≤ steps_allowed job told.activation
  pub begun : numbered (activations_of job) told.activation ≡ Some activation

-- a commit line was taken where it is sound, and left where it isn't
abbrev pub IsTaken : Job → KeptStore → List ToldLine → ToldLine → Option Progress → Type 0
IsTaken job opening before told (Some progress) =
    IsLineSound job opening before told × Stands job opening (before ++ told ∷ []) progress
IsTaken job opening before told None = ¬ (IsLineSound job opening before told)

-- an activation runs again on a store as a commit line tells, and leaves these bytes
pub record ReplaysLine (activation : Activation) (store : FlatStore) (told : ToldLine) (bytes : List ℕ) : Type 0 where
  pub state : Plain
  pub commits : before_commit activation told.steps store ≡ Some state
  pub prints : told.out ≡ state.out
  pub leaves : bytes ≡ state.store

-- where there was memory this holds of what was found, if something was
abbrev pub IfFound : {A E : Type 0} → Result (Option A) E → (A → Type 0) → Type 0
IfFound result is = IfOk result (λ found. IfSome found is)

-- how far commit lines are sound: all are, and a check stands behind them; or the first that isn't has this number
abbrev pub IsProgress : Job → KeptStore → List ToldLine → Result Progress ℕ → Type 0
IsProgress job opening lines found =
    MatchResult found (λ progress. AreSound job opening lines × Stands job opening lines progress) (IsFirstUnsound job opening lines)

-- at most so many commits were taken, and the store is one of a directory
pub record IsWithin (directory : Layout) (most : ℕ) (progress : Progress) : Type 0 where
  pub few : progress.commits ≤ most
  pub whole : length progress.store ≡ byte_count directory

-- a check takes a commit line exactly where it is sound behind those at which the check stands
abbrev pub ChecksLine : Layout → Progress → ToldLine → Option Progress → Type 0
ChecksLine directory progress told found =
    (job : Job) (opening : KeptStore) (before : List ToldLine)
    → opening.directory ≡ directory → Stands job opening before progress → IsTaken job opening before told found

-- the entry of a commit line that may follow those at which a check stands; none where it may not
abbrev pub IsEntryFor : Progress → CommitLine → Option Allowance → Type 0
IsEntryFor progress commit found =
    (job : Job) (opening : KeptStore) (before : List ToldLine) → Stands job opening before progress
    → MatchOption found
    ((activation : Activation) → ¬ (MayFollow job opening before (line_claim commit) activation))
    (λ entry. MayFollow job opening before (line_claim commit) (activation_in entry) × IsAllowanceOf job before commit.activation entry)

-- a kept store is the one at which a check stands, over this directory
abbrev pub IsAt : Layout → Progress → KeptStore → Type 0
IsAt directory progress closing =
    (closing.directory ≡ directory) × (closing.number ≡ progress.number) × (closing.store.items ≡ progress.store)

-- two directories have the same pages and segments, with whatever flags
abbrev pub HaveSameSegments : Layout → Layout → Type 0
HaveSameSegments one other = (one.page ≡ other.page) × (one.segments ≡ other.segments)

-- these are the entries of the begins among events, of no turn and no commit
pub record AreFresh (programs : List Program) (events : List Event) (entries : List Allowance) : Type 0 where
  pub begun : map activation_in entries ≡ begun programs events
  pub fresh : All IsFresh entries

-- each entry is the old one at its place, changed so
abbrev pub AreChanged : (change : ℕ → Allowance → Allowance) → (old new : List Allowance) → Type 0
AreChanged change old new = (place : ℕ) → slice_get new place ≡ option_map (change place) (slice_get old place)

-- the place of an activation among so many, if it is one of them
abbrev pub IsPlaceOf : (count activation : ℕ) → Option ℕ → Type 0
IsPlaceOf count activation found =
    MatchOption found ((place : ℕ) → place < count → place + 1 ≢ activation) (λ place. (place < count) × (place + 1 ≡ activation))

-- the bytes that a program leaves where it runs again on a store as a commit line tells; none where it doesn't
abbrev pub RunsAgain : Program → (args : List ℕ) → Layout → (store : List ℕ) → ToldLine → Option (List ℕ) → Type 0
RunsAgain program args directory store told found =
    let activation : Activation = record { program = program; args = args } in
    let flat : FlatStore = record { directory = directory; bytes = store } in
    MatchOption found ((bytes : List ℕ) → ¬ (ReplaysLine activation flat told bytes)) (ReplaysLine activation flat told)

-- the store of a state that printed just these bytes; none where it printed others
abbrev pub IsLeftBy : Plain → (out : List ℕ) → Option (List ℕ) → Type 0
IsLeftBy state out found = MatchOption found (out ≢ state.out) (λ bytes. (out ≡ state.out) × (bytes ≡ state.store))

-- the state in which a program comes to the commit call as its step with this number, on a store
abbrev pub ComesToCommit : Program → (args : List ℕ) → (steps : ℕ) → Layout → (store : List ℕ) → Option Plain → Type 0
ComesToCommit program args steps directory store found =
    found ≡ before_commit (record { program = program; args = args }) steps (record { directory = directory; bytes = store })
