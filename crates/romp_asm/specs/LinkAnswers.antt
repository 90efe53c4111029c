-- What linking answers.
use Rattle.std.specs.Prelude.{◌≡◌, ℕ, ⊤, Result, Ok, Err}
use Rattle.flat_machine.specs.declared.machine.Program.{Program}
use Rattle.asm_parse.specs.declared.asm_fault.AsmFault.{AsmFault}
use Rattle.asm_parse.specs.declared.asm_fault.AsmFault.TheVariants as asm
use Rattle.romp_asm.specs.Layout.{Parts, parts_of}
use Rattle.romp_asm.specs.declared.link_fault.LinkFault.{LinkFault}
use Rattle.romp_asm.specs.declared.link_fault.LinkFault.TheVariants.{Fault, Memory}

-- the same line and kind
abbrev pub link_fault : AsmFault → LinkFault
link_fault (asm.Fault line kind) = Fault line kind
link_fault asm.Memory = Memory

-- a fault is the one of this reading; a want of memory says nothing of the sources
abbrev pub IsLinkFaultOf : {A : Type 0} → LinkFault → Result A (ℕ × ℕ) → Type 0
IsLinkFaultOf (Fault line kind) reading = reading ≡ Err (line, kind)
IsLinkFaultOf Memory reading = ⊤

-- a program has the parts that a reading gives, or the fault is its fault
abbrev pub IsLinkAnswer : Result Program LinkFault → Result Parts (ℕ × ℕ) → Type 0
IsLinkAnswer (Ok program) reading = reading ≡ Ok (parts_of program)
IsLinkAnswer (Err fault) reading = IsLinkFaultOf fault reading
