-- An attempt over the unit, beside the row of the plain machine on one list of bytes of the store.
use Rattle.std.specs.Prelude.{◌≢◌, ◌≡◌, ℕ, ◌+◌, ◌<◌, ◌≤◌, ◌||◌, Bool, true, false, List, [], ◌∷◌, ◌++◌, length}
use Rattle.storage_unit.specs.Below.{Access, at, byte_count, Commit, halfword_of, has, how_went, IsOfFewBytes, Lines, lines_of_access, On, page_of_line, plan, Pool, row, seen_in, touched, Tried, tried}
use Rattle.flat_machine.specs.declared.machine.Plain.{Plain}
use Rattle.flat_machine.specs.declared.machine.Program.{Program}
use Rattle.flat_machine.specs.Row.{Check}
use Rattle.romp_cpu.specs.declared.cpu.Attempt.{Attempt}
use Rattle.romp_cpu.specs.declared.cpu.Cpu.{Cpu}
use Rattle.romp_cpu.specs.Segments.{registers_of_program}
use Rattle.storage_unit.specs.declared.unit_model.Reach.{Reach}
use Rattle.storage_unit.specs.declared.unit.Unit.{Unit}
use Rattle.storage_unit.specs.Places.{private_segment}
use Rattle.storage_unit.specs.Reach.{seat_selected, is_refused, answer_to, byte_at, stored}
use Rattle.storage_unit.specs.View.{reach_of}
use Rattle.storage_unit.specs.Bytes.{bytes_over, private_bytes, is_line_marked, IsClean}

-- the plain state of a processor over a unit and these committed bytes, that printed these bytes
abbrev pub plain_over : List ℕ → Cpu → Reach → (out : List ℕ) → Plain
plain_over committed cpu state out =
    record {
      regs = cpu.regs;
      cs = cpu.cs;
      iar = cpu.iar;
      private = private_bytes state.pool (seat_selected state);
      store = bytes_over state.directory state.pool committed;
      out = out;
    }

-- a seat is selected, and the registers are those of a program in it
pub record HasWindows (state : Reach) (program : Program) : Type 0 where
  pub selected : 1 ≤ state.runner
  pub registers : state.registers ≡ registers_of_program program state.directory (private_segment (seat_selected state))

-- a line is on a resident page, whose entry permits it
pub record IsOpenLine (state : Reach) (line : ℕ) (store : Bool) : Type 0 where
  pub resident : has state.pool.resident (page_of_line line) ≡ true
  pub permits : is_refused state line store ≡ false

-- these lines are
pub record IsOpen (state : Reach) (lines : Lines) : Type 0 where
  pub reads : (line : ℕ) → has lines.reads line ≡ true → IsOpenLine state line false
  pub writes : (line : ℕ) → has lines.writes line ≡ true → IsOpenLine state line true

-- the lines that a row wrote are marked beside those that were
abbrev pub MarksWritten : (old new : Pool) → Lines → Type 0
MarksWritten old new lines = (line : ℕ) → is_line_marked new line ≡ (is_line_marked old line || has lines.writes line)

-- the row goes on to a state, of which a processor counts the printed bytes; the lines that it touches are open, and those
-- that it wrote are marked
pub record GoesOpen (program : Program) (old new : Reach) (before next : Plain) (after : Cpu) : Type 0 where
  pub goes : row program old.directory before ≡ On next
  pub printed : length next.out ≡ after.printed
  pub few : length next.out ≤ 4096
  pub open_lines : IsOpen old (touched program old.directory before)
  pub marks : MarksWritten old.pool new.pool (touched program old.directory before)

-- the row goes on, but a line of its access isn't open
pub record IsShutOut (program : Program) (state : Reach) (before : Plain) (access : Access) : Type 0 where
  pub next : Plain
  pub goes : row program state.directory before ≡ On next
  pub touches : touched program state.directory before ≡ lines_of_access program state.directory access
  pub shut : ¬ (IsOpen state (touched program state.directory before))

-- processor and unit are as before
abbrev pub Stay : (before after : Cpu) → (old new : Reach) → Type 0
Stay before after old new = (after ≡ before) × (new ≡ old)

-- what an attempt came to is the program's row on the bytes that the unit shows over the committed ones
abbrev pub IsRow : Program → (committed out : List ℕ) → Attempt → (before after : Cpu) → (old new : Reach) → Type 0
IsRow program committed out Attempt.Went before after old new =
    GoesOpen program old new (plain_over committed before old out) (plain_over committed after new out) after
IsRow program committed out (Attempt.Print byte) before after old new =
    GoesOpen program old new (plain_over committed before old out) (plain_over committed after new (out ++ byte ∷ [])) after
IsRow program committed out Attempt.Commit before after old new =
    (row program old.directory (plain_over committed before old out) ≡ Commit) × Stay before after old new
IsRow program committed out (Attempt.Check code) before after old new =
    (row program old.directory (plain_over committed before old out) ≡ Check code) × Stay before after old new
IsRow program committed out (Attempt.Fault fault access) before after old new =
    IsShutOut program old (plain_over committed before old out) access × Stay before after old new

-- that, for every program whose windows the registers are, and all committed bytes
abbrev pub GivesRows : Attempt → (before after : Cpu) → (old new : Reach) → Type 0
GivesRows attempt before after old new =
    (program : Program) (committed out : List ℕ) → HasWindows old program
    → length committed ≡ byte_count old.directory → length out ≡ before.printed → length out ≤ 4096
    → IsRow program committed out attempt before after old new

-- an attempt's answer, and the processor and the unit after it: what the plan of the instruction does, by what the unit shows and answers
abbrev pub tried_over : Reach → Cpu → Tried Reach
tried_over state cpu =
    tried (seen_in byte_at answer_to stored state) cpu
    (plan (halfword_of (byte_at state)) cpu.regs cpu.cs cpu.iar)

-- an attempt changes bytes of frames and marks alone
abbrev pub ChangesBytes : (old new : Reach) → Type 0
ChangesBytes old new = new ≡ record old { pool = record old.pool { bytes = new.pool.bytes; marked = new.pool.marked } }

-- what was clean stays so
abbrev pub StaysClean : (old new : Reach) → Type 0
StaysClean old new =
    (committed : List ℕ) → length committed ≡ byte_count old.directory
    → IsClean old.directory old.pool committed → IsClean new.directory new.pool committed

-- private bytes of other seats stay
abbrev pub LeavesSeats : (old new : Reach) → Type 0
LeavesSeats old new = (seat : ℕ) → seat < 16 → (seat + 1 ≢ old.runner) → private_bytes new.pool seat ≡ private_bytes old.pool seat

-- What a step of a processor over a unit comes to, where it went so.
pub record StepsOver (old new : Unit) (from to : Cpu) (iar next : ℕ) (at_once : Bool) (told : Attempt) : Type 0 where
  pub tried : record { attempt = how_went at_once told; cpu = at to next; state = reach_of new } ≡ tried_over (reach_of old) (at from iar)
  pub row : GivesRows (how_went at_once told) (at from iar) (at to next) (reach_of old) (reach_of new)
  pub kept : ChangesBytes (reach_of old) (reach_of new)
  pub clean : StaysClean (reach_of old) (reach_of new)
  pub seats : LeavesSeats (reach_of old) (reach_of new)
  pub few : IsOfFewBytes (how_went at_once told)
