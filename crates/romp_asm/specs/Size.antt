-- How many bytes a statement makes.
use Rattle.std.specs.Prelude.{◌≡◌, ℕ, List, sum_by, Option, IfSome}
use Rattle.romp_table.specs.declared.inst.Inst as table
use Rattle.romp_asm.specs.Below.{Body, inst_bytes, Data, Entry, Export, form_of, Inst, IsLegal, Nothing, Space, Statement, Window}
use Rattle.asm_parse.specs.declared.form.Form.{Form}

-- the bytes of an instruction of this form
abbrev pub form_size : Form → ℕ
form_size Form.Jump = 2
form_size Form.Branch = 4
form_size Form.BranchRegister = 2
form_size Form.Link = 4
form_size Form.LinkAddress = 4
form_size (Form.Short scale) = 2
form_size Form.Long = 4
form_size Form.ThreeRegisters = 2
form_size Form.Count = 2
form_size Form.TwoRegisters = 2
form_size Form.Signed = 4
form_size Form.Unsigned = 4
form_size Form.Compare = 4
form_size Form.Trap = 4
form_size Form.Call = 4

-- an instruction has the bytes of its form
abbrev pub HasSize : Form → table.Inst → Type 0
HasSize form inst = inst_bytes inst ≡ form_size form

-- this instruction or none is made, and it is legal and has the bytes of its form
pub record IsInstOf (form : Form) (made result : Option table.Inst) : Type 0 where
  pub value : result ≡ made
  pub legal : IfSome result IsLegal
  pub size : IfSome result (HasSize form)

-- the bytes of a statement, by its mnemonic and the number of `.space` alone
abbrev pub size_of : Body → ℕ
size_of Nothing = 0
size_of (Inst op operands) = form_size (form_of op)
size_of (Data count value) = count
size_of (Space count) = count
size_of (Window register segment write) = 0
size_of (Entry value) = 0
size_of (Export word) = 0

-- the bytes of statements together
abbrev pub total_size : List Statement → ℕ
total_size statements = sum_by (λ statement. size_of statement.body) statements

-- two statements have the same mnemonic, and the same number where it is `.space`
abbrev pub SameMnemonic : Body → Body → Type 0
SameMnemonic Nothing Nothing = Unit {0}
SameMnemonic (Inst op operands) (Inst op' operands') = op ≡ op'
SameMnemonic (Data count value) (Data count' value') = count ≡ count'
SameMnemonic (Space count) (Space count') = count ≡ count'
SameMnemonic (Window register segment write) (Window register' segment' write') = Unit {0}
SameMnemonic (Entry value) (Entry value') = Unit {0}
SameMnemonic (Export word) (Export word') = Unit {0}
SameMnemonic _ _ = ⊥
