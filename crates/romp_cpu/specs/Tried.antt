-- What one attempt does, by the plan of the instruction and the answer of the storage.
use Rattle.std.specs.Prelude.{ℕ, ◌+◌, nat_lt, if◌then◌else◌, Bool, true, false, List, slice_set, Option, Some, None}
use Rattle.flat_machine.specs.declared.machine.Act.{Act}
use Rattle.flat_machine.specs.declared.machine.Cs.{Cs}
use Rattle.flat_machine.specs.Plans.{Plan, Does, Fails}
use Rattle.flat_machine.specs.Effect.{filled}
use Rattle.flat_machine.specs.Row.{stored_bytes}
use Rattle.romp_cpu.specs.declared.cpu.Attempt.{Attempt}
use Rattle.romp_cpu.specs.declared.cpu.Cpu.{Cpu}
use Rattle.romp_cpu.specs.declared.storage.Access.{Access}
use Rattle.romp_cpu.specs.declared.storage.Probe.{Probe}
use Rattle.romp_cpu.specs.Shown.{bytes_from, access_to}

-- an attempt's answer, and the processor and the storage's state after it
pub record Tried (S : Type 0) : Type 0 where
  pub attempt : Attempt
  pub cpu : Cpu
  pub state : S

-- a processor with this address of its next instruction
abbrev pub at : Cpu → (iar : ℕ) → Cpu
at cpu iar = record cpu { iar = iar }

-- how an attempt went: at once, or as it was told
abbrev pub how_went : (at_once : Bool) → (told : Attempt) → Attempt
how_went true told = Attempt.Went
how_went false told = told

-- what a storage in a state shows of a range, answers to an access, and is after a store
pub record Seen (S : Type 0) : Type 0 where
  pub state : S
  pub shown : (address count : ℕ) → List ℕ
  pub answer : Access → Probe
  pub stored : (address : ℕ) → List ℕ → S

-- what is seen of a storage in a state, by the meanings of the storage
abbrev pub seen_in : {S : Type 0} → (S → ℕ → ℕ) → (S → Access → Probe) → (S → ℕ → List ℕ → S) → S → Seen S
seen_in byte_at answer stored state = record { state = state; shown = bytes_from (byte_at state); answer = answer state; stored = stored state }

-- registers with a link, if there is one
abbrev pub link_set : Option (ℕ × ℕ) → List ℕ → List ℕ
link_set None registers = registers
link_set (Some link) registers = slice_set registers link.0 link.1

-- an attempt that leaves processor and storage as they were
abbrev pub undone : {S : Type 0} → Seen S → Cpu → Attempt → Tried S
undone seen cpu attempt = record { attempt = attempt; cpu = cpu; state = seen.state }

-- what is answered to an access that isn't permitted
abbrev pub refused_by : Access → Probe → Option Attempt
refused_by access Probe.Permitted = None
refused_by access (Probe.Check code) = Some (Attempt.Check code)
refused_by access (Probe.Fault fault) = Some (Attempt.Fault fault access)

-- an access by what is answered to it: nothing is done where it is refused
abbrev pub unless_refused : {S : Type 0} → Seen S → Cpu → Option Attempt → Tried S → Tried S
unless_refused seen cpu None permitted = permitted
unless_refused seen cpu (Some attempt) permitted = undone seen cpu attempt

-- an act, with registers, status and address as after it
abbrev pub tried_act : {S : Type 0} → Seen S → Cpu → Act → List ℕ → Cs → ℕ → Option (ℕ × ℕ) → Tried S
tried_act seen cpu Act.Nothing regs cs next link =
    record { attempt = Attempt.Went; cpu = record { regs = link_set link regs; cs = cs; iar = next; printed = cpu.printed }; state = seen.state }
tried_act seen cpu (Act.Load address bytes to sign) regs cs next link =
    unless_refused seen cpu (refused_by (access_to address bytes false) (seen.answer (access_to address bytes false)))
    (record {
      attempt = Attempt.Went;
      cpu = record { regs = link_set link (filled to sign (seen.shown address bytes) regs); cs = cs; iar = next; printed = cpu.printed };
      state = seen.state;
    })
tried_act seen cpu (Act.Store address bytes from) regs cs next link =
    unless_refused seen cpu (refused_by (access_to address bytes true) (seen.answer (access_to address bytes true)))
    (record {
      attempt = Attempt.Went;
      cpu = record { regs = link_set link regs; cs = cs; iar = next; printed = cpu.printed };
      state = seen.stored address (stored_bytes regs bytes from);
    })
tried_act seen cpu (Act.Print byte) regs cs next link =
    if nat_lt cpu.printed 4096
    then record { attempt = Attempt.Print byte; cpu = record { regs = link_set link regs; cs = cs; iar = next; printed = cpu.printed + 1 }; state = seen.state }
    else undone seen cpu (Attempt.Check 5)
tried_act seen cpu Act.Commit regs cs next link = undone seen cpu Attempt.Commit
tried_act seen cpu (Act.Check code) regs cs next link = undone seen cpu (Attempt.Check code)

-- a plan
abbrev pub tried : {S : Type 0} → Seen S → Cpu → Plan → Tried S
tried seen cpu (Does regs cs act next link) = tried_act seen cpu act regs cs next link
tried seen cpu (Fails code) = undone seen cpu (Attempt.Check code)
