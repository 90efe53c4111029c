-- The instruction of a mnemonic and its operands.
use Rattle.std.specs.Prelude.{ℕ, ℤ, List, [], ◌∷◌, Option, Some, None, option_and_then}
use Rattle.romp_table.specs.declared.inst.Op.{Op}
use Rattle.romp_table.specs.declared.inst.Inst.{Inst}
use Rattle.asm_parse.specs.declared.form.Form.{Form}
use Rattle.romp_asm.specs.declared.value.Known.{Known}
use Rattle.romp_asm.specs.declared.value.Known.TheVariants as known
use Rattle.romp_asm.specs.Field.{at_most, even_at_most, number_field, relative, short_field, signed_field}

infixl 10 ◌>>=◌
-- the next step, if there is a value
abbrev pub ◌>>=◌ : {A B : Type 0} → Option A → (A → Option B) → Option B
value >>= next = option_and_then next value

-- `cond, target`
abbrev pub conditional : Op → Form → ℕ → ℕ → ℤ → Option Inst
conditional op Form.Jump at condition target = do
  cond ← number_field 5 condition
  disp ← relative 256 254 at target
  Some (Inst.J op cond disp)
conditional op Form.Branch at condition target = do
  cond ← number_field 5 condition
  disp ← relative 1048576 1048574 at target
  Some (Inst.BI op cond disp)
conditional op _ at condition target = None

-- `cond, rC`
abbrev pub to_register : Op → Form → ℕ → ℕ → Option Inst
to_register op Form.BranchRegister condition register = do
  b ← number_field 5 condition
  c ← number_field 15 register
  Some (Inst.R op b c)
to_register op _ condition register = None

-- `rB, target`, `rB, k` or `rC, n`
abbrev pub with_register : Op → Form → ℕ → ℕ → ℤ → Option Inst
with_register op Form.Link at register value = do
  b ← number_field 15 register
  disp ← relative 1048576 1048574 at value
  Some (Inst.BI op b disp)
with_register op Form.Count at register value = do
  b ← number_field 15 register
  k ← at_most 15 value
  Some (Inst.R op b k)
with_register op Form.Compare at register value = do
  c ← number_field 15 register
  i ← signed_field value
  Some (Inst.D op 0 c i)
with_register op _ at register value = None

-- `target` or `n`
abbrev pub alone : Op → Form → ℤ → Option Inst
alone op Form.LinkAddress value = do
  to ← even_at_most 16777214 value
  Some (Inst.BA op to)
alone op Form.Call value = do
  i ← at_most 65535 value
  Some (Inst.D op 0 0 i)
alone op _ value = None

-- `rB, disp(rC)`
abbrev pub at_place : Op → Form → ℕ → ℤ → ℕ → Option Inst
at_place op (Form.Short scale) register displacement base = do
  b ← number_field 15 register
  k ← short_field scale displacement
  c ← number_field 15 base
  Some (Inst.S op k b c)
at_place op Form.Long register displacement base = do
  b ← number_field 15 register
  i ← signed_field displacement
  c ← number_field 15 base
  Some (Inst.D op b c i)
at_place op _ register displacement base = None

-- `rB, rC`
abbrev pub two_registers : Op → Form → ℕ → ℕ → Option Inst
two_registers op Form.TwoRegisters first second = do
  b ← number_field 15 first
  c ← number_field 15 second
  Some (Inst.R op b c)
two_registers op _ first second = None

-- `rA, rB, rC`
abbrev pub three_registers : Op → Form → ℕ → ℕ → ℕ → Option Inst
three_registers op Form.ThreeRegisters first second third = do
  a ← number_field 15 first
  b ← number_field 15 second
  c ← number_field 15 third
  Some (Inst.X op a b c)
three_registers op _ first second third = None

-- `rB, rC, n`
abbrev pub immediate : Op → Form → ℕ → ℕ → ℤ → Option Inst
immediate op Form.Signed first second value = do
  b ← number_field 15 first
  c ← number_field 15 second
  i ← signed_field value
  Some (Inst.D op b c i)
immediate op Form.Unsigned first second value = do
  b ← number_field 15 first
  c ← number_field 15 second
  i ← at_most 65535 value
  Some (Inst.D op b c i)
immediate op _ first second value = None

-- `mask, rC, n`
abbrev pub trapping : Op → Form → ℤ → ℕ → ℤ → Option Inst
trapping op Form.Trap mask register value = do
  b ← at_most 7 mask
  c ← number_field 15 register
  i ← signed_field value
  Some (Inst.D op b c i)
trapping op _ mask register value = None

-- the instruction at an address, by its operation's form and its operands; none where an operand is out of its range
abbrev pub inst_by : Op → Form → ℕ → List Known → Option Inst
inst_by op form at (known.Condition condition ∷ known.Value target ∷ []) = conditional op form at condition target
inst_by op form at (known.Condition condition ∷ known.Register register ∷ []) = to_register op form condition register
inst_by op form at (known.Register register ∷ known.Value value ∷ []) = with_register op form at register value
inst_by op form at (known.Value value ∷ []) = alone op form value
inst_by op form at (known.Register register ∷ known.Place displacement base ∷ []) = at_place op form register displacement base
inst_by op form at (known.Register first ∷ known.Register second ∷ []) = two_registers op form first second
inst_by op form at (known.Register first ∷ known.Register second ∷ known.Register third ∷ []) = three_registers op form first second third
inst_by op form at (known.Register first ∷ known.Register second ∷ known.Value value ∷ []) = immediate op form first second value
inst_by op form at (known.Value mask ∷ known.Register register ∷ known.Value value ∷ []) = trapping op form mask register value
inst_by op form at _ = None
