-- What a call that takes memory answers.
use Rattle.std.specs.Prelude.{◌≡◌, ℕ, ⊤, Result, Ok, Err}
use Rattle.asm_parse.specs.declared.asm_fault.AsmFault.{AsmFault}
use Rattle.asm_parse.specs.declared.asm_fault.AsmFault.TheVariants as asm
use Rattle.asm_parse.specs.declared.asm_fault.LineFault.{LineFault}
use Rattle.asm_parse.specs.declared.asm_fault.LineFault.TheVariants as line

-- a fault is the one of this reading; a want of memory says nothing
abbrev pub IsFaultOf : {B : Type 0} → LineFault → Result B ℕ → Type 0
IsFaultOf (line.Kind kind) reading = reading ≡ Err kind
IsFaultOf line.Memory reading = ⊤

-- an answer, as seen, is what a reading of one line gives, unless there is no memory
abbrev pub Answers : {A B : Type 0} → (A → B) → Result A LineFault → Result B ℕ → Type 0
Answers seen (Ok value) reading = reading ≡ Ok (seen value)
Answers seen (Err fault) reading = IsFaultOf fault reading

-- a fault of a text is the one of this reading; a want of memory says nothing
abbrev pub IsTextFaultOf : {B : Type 0} → AsmFault → Result B (ℕ × ℕ) → Type 0
IsTextFaultOf (asm.Fault line kind) reading = reading ≡ Err (line, kind)
IsTextFaultOf asm.Memory reading = ⊤

-- an answer, as seen, is what a reading of a text gives, unless there is no memory
abbrev pub IsTextAnswer : {A B : Type 0} → (A → B) → Result A AsmFault → Result B (ℕ × ℕ) → Type 0
IsTextAnswer seen (Ok value) reading = reading ≡ Ok (seen value)
IsTextAnswer seen (Err fault) reading = IsTextFaultOf fault reading
