-- The lines that an activation touches as its serial run does.
use Rattle.std.specs.Prelude.{◌≡◌, ℕ, ◌-◌, Bool, false, true, List, [], ◌∷◌, ◌++◌, map, Some, Result, Ok, Err, Option, None, Vec, ◌<◌, MatchOption, length, take}
use Rattle.serial_audit.specs.Below.{Activation, Contains, flat_map, FlatStore, Job, Lines, numbered, range_with_len, serial, before_commit, IsWholeStore, Plain, no_lines, Layout, Program}
use Rattle.flat_machine.specs.Due.{touched_next}
use Rattle.serial_audit.specs.declared.auditing.KeptStore.{KeptStore}
use Rattle.serial_audit.specs.Audit.{AreSound, IsFirstUnsound, ToldLine, activations_of, flat_of, pair_of, report_told, IsLineSound, line_claim}
use Rattle.serial_audit.specs.declared.answer.Trace.{Trace}
use Rattle.serial_audit.specs.declared.answer.TraceFault.{TraceFault}
use Rattle.serial_audit.specs.declared.answer.TraceFault.TheVariants.{Memory, NoCommit, NotSerial}
use Rattle.serial_audit.specs.declared.touch.Touch.{Touch}
use Rattle.flat_machine.specs.Agreement.{AgreeOn, AgreeBut}
use Rattle.serial_audit.specs.declared.touch.Stretch.{Stretch}
use Rattle.report_text.specs.declared.report_line.CommitLine.{CommitLine}
use Rattle.std.specs.declared.alloc.Global.{Global}
use Rattle.flat_machine.specs.Touched.{lines_at, touched}
use Rattle.serial_audit.specs.declared.auditing.Progress.{Progress}
use Rattle.flat_machine.specs.Row.{located}
use Rattle.serial_audit.specs.Progress.{Stands}

-- lines that are read, or written
abbrev pub lines_if : Bool → List ℕ → Lines
lines_if false lines = record { reads = lines; writes = [] }
lines_if true lines = record { reads = []; writes = lines }

-- the lines of a stretch
abbrev pub stretch_lines : Option Stretch → Lines
stretch_lines None = no_lines
stretch_lines (Some stretch) = lines_if stretch.store (range_with_len stretch.first stretch.count)

-- a line that a step reads, or writes
abbrev pub touch_at : ℕ → Bool → ℕ → Touch
touch_at step store line = record { step = step; line = line; store = store }

-- the touches of a step: the lines that it reads, ascending, and then those that it writes, ascending
abbrev pub touches_of_step : ℕ → Lines → List Touch
touches_of_step step lines = map (touch_at step false) lines.reads ++ map (touch_at step true) lines.writes

-- the touches of an activation's first steps on a store: for each step those of the row that is next after the steps before it
abbrev pub touches : Activation → FlatStore → ℕ → List Touch
touches activation store steps =
    flat_map
    (λ step. touches_of_step step (touched_next activation.program activation.args store (step - 1)))
    (range_with_len 1 steps)

-- these are the touches of a commit line's activation, on the store that the commit lines before it leave one after another
pub record AreTouches (job : Job) (opening : KeptStore) (before : List ToldLine) (told : ToldLine) (list : List Touch) : Type 0 where
  pub activation : Activation
  pub begun : numbered (activations_of job) told.activation ≡ Some activation
  pub left : FlatStore
  pub leaves : serial (activations_of job) (map pair_of before) (flat_of opening) ≡ Some left
  pub list_is : list ≡ touches activation left told.steps

-- the commit lines before the first one of an activation, and that one
pub record IsFirstOf (lines : List ToldLine) (activation : ℕ) (before : List ToldLine) (told : ToldLine) : Type 0 where
  pub behind : List ToldLine
  pub lines_are : lines ≡ before ++ told ∷ behind
  pub is_its : told.activation ≡ activation
  pub first : ¬ (Contains (map (λ line. line.activation) before) activation)

-- the trace of a commit line: it and those before it are sound, and these are its steps and its touches
pub record IsTrace (job : Job) (opening : KeptStore) (before : List ToldLine) (told : ToldLine) (trace : Trace) : Type 0 where
  pub sound : AreSound job opening (before ++ told ∷ [])
  pub steps : trace.steps ≡ told.steps
  pub touches : AreTouches job opening before told trace.touches.items

-- The answer of a trace: that of the activation's first commit line; or that it has none; or, up to that line and with it, the first line
-- that isn't sound; or that there was no memory.
abbrev pub IsTraceAnswer : Job → KeptStore → List ToldLine → ℕ → Result Trace TraceFault → Type 0
IsTraceAnswer job opening lines activation (Ok trace) =
    (before : List ToldLine) × (told : ToldLine) × IsFirstOf lines activation before told × IsTrace job opening before told trace
IsTraceAnswer job opening lines activation (Err NoCommit) = ¬ (Contains (map (λ line. line.activation) lines) activation)
IsTraceAnswer job opening lines activation (Err (NotSerial place)) =
    (before : List ToldLine) × (told : ToldLine) × IsFirstOf lines activation before told
    × IsFirstUnsound job opening (before ++ told ∷ []) place
IsTraceAnswer job opening lines activation (Err Memory) = Unit {0}

-- the lines of touches
abbrev pub lines_touched : List Touch → List ℕ
lines_touched list = map (λ touch. touch.line) list

-- The law: where an activation commits as its step with a number on one store, it commits as that step on each other store of the same
-- directory that agrees with the first on every line of the trace. The trace is the same, and so is all before the commit, the printed bytes
-- among it, but the store's bytes: these agree on the lines of the trace, and are the other store's own on each other line.
abbrev pub TraceIsEnough : Type 0
TraceIsEnough =
    (activation : Activation) (steps : ℕ) (store other : FlatStore) (state : Plain)
    → IsWholeStore store → IsWholeStore other → other.directory ≡ store.directory
    → before_commit activation steps store ≡ Some state
    → AgreeOn store.directory (lines_touched (touches activation store steps)) store.bytes other.bytes
    → (bytes : List ℕ)
    × (before_commit activation steps other ≡ Some (record state { store = bytes }))
    × (touches activation other steps ≡ touches activation store steps)
    × AgreeOn store.directory (lines_touched (touches activation store steps)) state.store bytes
    × AgreeBut store.directory (lines_touched (touches activation store steps)) other.bytes bytes

-- the touches of a step were added, which reads and writes these lines
abbrev pub AddsTouches : (step : ℕ) → Lines → (old new : Vec Touch Global) → Type 0
AddsTouches step lines old new = new.items ≡ old.items ++ touches_of_step step lines

-- the touches of a step were added, whose row is the next one at a state
abbrev pub AddsNextTouches : Program → Layout → Plain → (step : ℕ) → (old new : Vec Touch Global) → Type 0
AddsNextTouches program directory plain step old new = AddsTouches step (touched program directory plain) old new

-- the state in which a program comes to the commit call as its step with this number, and its touches; none where it doesn't
abbrev pub IsTracedRun : Program → (args : List ℕ) → (steps : ℕ) → Layout → (store : List ℕ) → Option (Plain × Vec Touch Global) → Type 0
IsTracedRun program args steps directory store found =
    let activation : Activation = record { program = program; args = args } in
    let flat : FlatStore = record { directory = directory; bytes = store } in
    MatchOption found (before_commit activation steps flat ≡ None)
    (λ traced. (before_commit activation steps flat ≡ Some traced.0) × (traced.1.items ≡ touches activation flat steps))

-- these are the lines of an access to so many bytes at an effective address
abbrev pub AreLinesAt : Program → Layout → (address bytes : ℕ) → (store : Bool) → Lines → Type 0
AreLinesAt program directory address bytes store lines =
    lines_if store (lines_at directory (located program directory address bytes store) bytes) ≡ lines

-- no commit line is of an activation
abbrev pub CommitsNever : List CommitLine → ℕ → Type 0
CommitsNever report activation = ¬ (Contains (map (λ (line : ToldLine). line.activation) (report_told report)) activation)

-- the first commit line of an activation, behind so many others
abbrev pub IsFirstAt : List CommitLine → (activation place : ℕ) → CommitLine → Type 0
IsFirstAt report activation place commit =
    (place < length report) × IsFirstOf (report_told report) activation (report_told (take place report)) (line_claim commit)

-- the touches of a commit line exactly where it is sound behind those at which a check stands
abbrev pub Traces : Layout → Progress → ToldLine → Option (Vec Touch Global) → Type 0
Traces directory progress told found =
    (job : Job) (opening : KeptStore) (before : List ToldLine) → opening.directory ≡ directory → Stands job opening before progress
    → MatchOption found (¬ (IsLineSound job opening before told)) (λ touches. IsLineSound job opening before told × AreTouches job opening before told touches.items)
