-- An attempt over a storage, beside the row of a plain state that agrees with it.
use Rattle.std.specs.Prelude.{◌≡◌, ℕ, ◌+◌, ◌<◌, ◌≤◌, if◌then◌else◌, true, false, List, [], ◌∷◌, ◌++◌, length, slice_range, Option, Some, None}
use Rattle.std.specs.Option.{option_map_or}
use Rattle.lines.specs.Directory.{Layout}
use Rattle.lines.specs.Conflicts.{Lines, no_lines}
use Rattle.flat_machine.specs.declared.machine.Act.{Act}
use Rattle.flat_machine.specs.declared.machine.Located.{Located}
use Rattle.flat_machine.specs.declared.machine.Located.TheVariants.{Private, Shared, Refused}
use Rattle.flat_machine.specs.declared.machine.Plain.{Plain}
use Rattle.flat_machine.specs.Plans.{Plan, Does, Fails}
use Rattle.flat_machine.specs.declared.machine.Program.{Program}
use Rattle.flat_machine.specs.Row.{Outcome, On, Commit, Check, plan, plan_at, located, row_by, stored_bytes}
use Rattle.flat_machine.specs.Touched.{lines_at, touched_by}
use Rattle.romp_cpu.specs.declared.cpu.Attempt.{Attempt}
use Rattle.romp_cpu.specs.declared.cpu.Cpu.{Cpu}
use Rattle.romp_cpu.specs.declared.storage.Access.{Access}
use Rattle.romp_cpu.specs.declared.storage.Probe.{Probe}
use Rattle.romp_cpu.specs.Shown.{access_to, halfword_of}
use Rattle.romp_cpu.specs.declared.storage.Storage.{Ghosts}
use Rattle.romp_cpu.specs.Answers.{answer_in}
use Rattle.romp_cpu.specs.Tried.{Seen, seen_in, Tried, tried, tried_act}

-- the plan of a processor's next instruction, from the bytes that are shown
abbrev pub next_plan : (byte_at : ℕ → ℕ) → Cpu → Plan
next_plan byte_at cpu = plan (halfword_of byte_at) cpu.regs cpu.cs cpu.iar

-- what is seen of a storage as it is
abbrev pub seen_of : {S State : Type 0} (G : Ghosts S State) → S → Seen State
seen_of G storage = seen_in G.byte_at (answer_in G.registers G.is_in_frame G.refuses) G.stored (G.state storage)

-- the plan of a processor's next instruction over a storage
abbrev pub plan_over : {S State : Type 0} (G : Ghosts S State) → S → Cpu → Plan
plan_over G storage cpu = next_plan (G.byte_at (G.state storage)) cpu

-- an attempt's answer, with the processor and the storage that it left
abbrev pub left_as : {S State : Type 0} (G : Ghosts S State) → Attempt → Cpu → S → Tried State
left_as G attempt cpu storage = record { attempt = attempt; cpu = cpu; state = G.state storage }

-- the access of a fault is of 1 to 64 bytes
abbrev pub IsOfFewBytes : Attempt → Type 0
IsOfFewBytes (Attempt.Fault fault access) = (0 < access.bytes) × (access.bytes ≤ 64)
IsOfFewBytes _ = Unit {0}

-- from a storage and a processor to others an attempt does the act that is left of an instruction, and an access has few bytes
pub record TriesAct {S State : Type 0} (G : Ghosts S State)
    (before after : S) (old new : Cpu) (act : Act) (next : ℕ) (link : Option (ℕ × ℕ)) (attempt : Attempt) : Type 0 where
  pub tried : left_as G attempt new after ≡ tried_act (seen_of G before) old act old.regs old.cs next link
  pub few : IsOfFewBytes attempt

-- an attempt does what the plan of the next instruction says
abbrev pub TriesNext : {S State : Type 0} (G : Ghosts S State) (before after : S) (old new : Cpu) → Attempt → Type 0
TriesNext G before after old new attempt = left_as G attempt new after ≡ tried (seen_of G before) old (plan_over G before old)

-- the access of an act
abbrev pub access_of : Act → Option Access
access_of (Act.Load address bytes to sign) = Some (access_to address bytes false)
access_of (Act.Store address bytes from) = Some (access_to address bytes true)
access_of _ = None

-- what a plan accesses
abbrev pub access_of_plan : Plan → Option Access
access_of_plan (Does regs cs act next link) = access_of act
access_of_plan (Fails code) = None

-- where an access lies
abbrev pub access_place : Program → Layout → Access → Located
access_place program directory access = located program directory access.address access.bytes access.store

-- the plain bytes of an access
abbrev pub bytes_in : Plain → Located → ℕ → List ℕ
bytes_in plain (Private at) count = slice_range plain.private at (at + count)
bytes_in plain (Shared at) count = slice_range plain.store at (at + count)
bytes_in plain (Refused code) count = []

-- an access gets a check exactly where it lies nowhere, with the same code
abbrev pub ChecksAlike : Probe → Located → Type 0
ChecksAlike (Probe.Check code) (Refused other) = code ≡ other
ChecksAlike (Probe.Check code) _ = ⊥
ChecksAlike _ (Refused other) = ⊥
ChecksAlike _ _ = Unit {0}

-- a range has the same bytes, if its access is permitted
abbrev pub ShowsSame : {S : Type 0} → Program → Layout → Plain → Seen S → Access → Type 0
ShowsSame program directory plain seen access =
    seen.answer access ≡ Probe.Permitted → bytes_in plain (access_place program directory access) access.bytes ≡ seen.shown access.address access.bytes

-- registers, status, address and number of printed bytes are a processor's
pub record IsCpuOf (plain : Plain) (cpu : Cpu) : Type 0 where
  pub regs : plain.regs ≡ cpu.regs
  pub cs : plain.cs ≡ cpu.cs
  pub iar : plain.iar ≡ cpu.iar
  pub printed : length plain.out ≡ cpu.printed

-- a plain state agrees with a processor and a storage: the same processor, the private bytes shown from address 0 on, the
-- same checks, and the same bytes where the next row accesses and is permitted to
pub record Agrees {S : Type 0} (program : Program) (directory : Layout) (plain : Plain) (cpu : Cpu) (seen : Seen S) : Type 0 where
  pub same_cpu : IsCpuOf plain cpu
  pub private_shown : plain.private ≡ seen.shown 0 16384
  pub same_checks : (access : Access) → ChecksAlike (seen.answer access) (access_place program directory access)
  pub same_bytes : (access : Access) → access_of_plan (plan_at plain) ≡ Some access → ShowsSame program directory plain seen access

-- an attempt gives a row's outcome: after one that went on the processor is that of the next state, and a printed byte is
-- the one that the row printed; after any other the processor is as it was
abbrev pub GivesRow : Outcome → Plain → Attempt → Cpu → Cpu → Type 0
GivesRow (On next) plain Attempt.Went old new = IsCpuOf next new × (next.out ≡ plain.out)
GivesRow (On next) plain (Attempt.Print byte) old new = IsCpuOf next new × (next.out ≡ plain.out ++ byte ∷ [])
GivesRow Commit plain Attempt.Commit old new = new ≡ old
GivesRow (Check code) plain (Attempt.Check other) old new = (other ≡ code) × (new ≡ old)
GivesRow _ plain attempt old new = ⊥

-- the single store of a plan has some bytes, as many as its access
abbrev pub StoresAll : Plan → Type 0
StoresAll (Does regs cs (Act.Store address bytes from) next link) = (0 < bytes) × (length (stored_bytes regs bytes from) ≡ bytes)
StoresAll _ = Unit {0}

-- the state that the single store of a plan leaves, and the state before where the plan stores nothing
abbrev pub stored_by : {S : Type 0} → Seen S → Plan → S
stored_by seen (Does regs cs (Act.Store address bytes from) next link) = seen.stored address (stored_bytes regs bytes from)
stored_by seen _ = seen.state

-- the storage's state after a row
abbrev pub state_after : {S : Type 0} → Seen S → Plan → Outcome → S
state_after seen plan (On next) = stored_by seen plan
state_after seen plan _ = seen.state

-- the row's outcome and the storage's state after it
abbrev pub GivesAll : {S : Type 0} → Outcome → Plan → Plain → Cpu → Seen S → Tried S → Type 0
GivesAll outcome plan plain cpu seen result = GivesRow outcome plain result.attempt cpu result.cpu × (result.state ≡ state_after seen plan outcome)

-- the same with a look at the answer of the row's access: a fault is answered with the access and undoes the row; a check
-- is the row's
abbrev pub GivesBy : {S : Type 0} → Probe → Access → Outcome → Plan → Plain → Cpu → Seen S → Tried S → Type 0
GivesBy Probe.Permitted access outcome plan plain cpu seen result = GivesAll outcome plan plain cpu seen result
GivesBy (Probe.Check code) access outcome plan plain cpu seen result = (outcome ≡ Check code) × GivesAll outcome plan plain cpu seen result
GivesBy (Probe.Fault fault) access outcome plan plain cpu seen result =
    (result.attempt ≡ Attempt.Fault fault access) × (result.cpu ≡ cpu) × (result.state ≡ seen.state)

abbrev pub GivesOver : {S : Type 0} → Option Access → Outcome → Plan → Plain → Cpu → Seen S → Tried S → Type 0
GivesOver None outcome plan plain cpu seen result = GivesAll outcome plan plain cpu seen result
GivesOver (Some access) outcome plan plain cpu seen result = GivesBy (seen.answer access) access outcome plan plain cpu seen result

-- the store lines of an access
abbrev pub lines_of_access : Program → Layout → Access → Lines
lines_of_access program directory access =
    if access.store
    then record { reads = []; writes = lines_at directory (access_place program directory access) access.bytes }
    else record { reads = lines_at directory (access_place program directory access) access.bytes; writes = [] }

-- where a row goes on, it touches the lines of its access
abbrev pub TouchesAccess : Program → Layout → Outcome → Plan → Type 0
TouchesAccess program directory outcome plan =
    (next : Plain) → outcome ≡ On next
    → touched_by program directory outcome plan ≡ option_map_or (lines_of_access program directory) (access_of_plan plan) no_lines

-- an attempt beside the row of a plan
pub record GivesPlan {S : Type 0} (program : Program) (directory : Layout) (plain : Plain) (plan : Plan) (cpu : Cpu) (seen : Seen S) (result : Tried S) : Type 0 where
  pub gives : GivesOver (access_of_plan plan) (row_by program directory plain plan) plan plain cpu seen result
  pub touches : TouchesAccess program directory (row_by program directory plain plan) plan

-- for every plain state that agrees, an attempt gives the outcome of its row
abbrev pub GivesEveryRow : {S : Type 0} → Cpu → Seen S → Tried S → Type 0
GivesEveryRow cpu seen result =
    (program : Program) (directory : Layout) (plain : Plain)
    → Agrees program directory plain cpu seen → GivesPlan program directory plain (plan_at plain) cpu seen result

-- so from a storage and a processor to others
abbrev pub GivesNext : {S State : Type 0} (G : Ghosts S State) (before after : S) (old new : Cpu) → Attempt → Type 0
GivesNext G before after old new attempt = GivesEveryRow old (seen_of G before) (left_as G attempt new after)

-- a fault, a commit and a check leave processor and state as they were
abbrev pub UndoesUnlessWent : {S : Type 0} → Attempt → Cpu → Cpu → S → S → Type 0
UndoesUnlessWent Attempt.Went cpu new state after = Unit {0}
UndoesUnlessWent (Attempt.Print byte) cpu new state after = Unit {0}
UndoesUnlessWent _ cpu new state after = (new ≡ cpu) × (after ≡ state)
