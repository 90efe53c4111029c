-- The forms of the instructions.
use Rattle.std.specs.Prelude.{List, [], ◌∷◌}
use Rattle.romp_table.specs.declared.inst.Op.{Op}
use Rattle.asm_parse.specs.declared.form.Form.{Form}
use Rattle.asm_parse.specs.declared.form.Sort.{Sort}

-- the form of an instruction
unfoldable pub form_of : Op → Form
form_of Op.Jb = Form.Jump
form_of Op.Jnb = Form.Jump
form_of Op.Bnb = Form.Branch
form_of Op.Bnbx = Form.Branch
form_of Op.Bb = Form.Branch
form_of Op.Bbx = Form.Branch
form_of Op.Bnbr = Form.BranchRegister
form_of Op.Bnbrx = Form.BranchRegister
form_of Op.Bbr = Form.BranchRegister
form_of Op.Bbrx = Form.BranchRegister
form_of Op.Bali = Form.Link
form_of Op.Balix = Form.Link
form_of Op.Bala = Form.LinkAddress
form_of Op.Balax = Form.LinkAddress
form_of Op.Stcs = Form.Short 1
form_of Op.Lcs = Form.Short 1
form_of Op.Sths = Form.Short 2
form_of Op.Lhas = Form.Short 2
form_of Op.Sts = Form.Short 4
form_of Op.Ls = Form.Short 4
form_of Op.Lm = Form.Long
form_of Op.Stm = Form.Long
form_of Op.Lc = Form.Long
form_of Op.Lh = Form.Long
form_of Op.Lha = Form.Long
form_of Op.L = Form.Long
form_of Op.Stc = Form.Long
form_of Op.Sth = Form.Long
form_of Op.St = Form.Long
form_of Op.Cas = Form.ThreeRegisters
form_of Op.Ais = Form.Count
form_of Op.Inc = Form.Count
form_of Op.Sis = Form.Count
form_of Op.Dec = Form.Count
form_of Op.Cis = Form.Count
form_of Op.Clrbu = Form.Count
form_of Op.Clrbl = Form.Count
form_of Op.Setbu = Form.Count
form_of Op.Setbl = Form.Count
form_of Op.Sari = Form.Count
form_of Op.Sari16 = Form.Count
form_of Op.Lis = Form.Count
form_of Op.Sri = Form.Count
form_of Op.Sri16 = Form.Count
form_of Op.Sli = Form.Count
form_of Op.Sli16 = Form.Count
form_of Op.Ai = Form.Signed
form_of Op.Aei = Form.Signed
form_of Op.Sfi = Form.Signed
form_of Op.Cal = Form.Signed
form_of Op.Oiu = Form.Unsigned
form_of Op.Oil = Form.Unsigned
form_of Op.Nilz = Form.Unsigned
form_of Op.Nilo = Form.Unsigned
form_of Op.Xil = Form.Unsigned
form_of Op.Niuz = Form.Unsigned
form_of Op.Niuo = Form.Unsigned
form_of Op.Xiu = Form.Unsigned
form_of Op.Cau = Form.Unsigned
form_of Op.Ci = Form.Compare
form_of Op.Cli = Form.Compare
form_of Op.Ti = Form.Trap
form_of Op.Svc = Form.Call
form_of _ = Form.TwoRegisters

-- the operands of a form, in the order of the text
abbrev pub sorts_of : Form → List Sort
sorts_of Form.Jump = Sort.Condition ∷ Sort.Value ∷ []
sorts_of Form.Branch = Sort.Condition ∷ Sort.Value ∷ []
sorts_of Form.BranchRegister = Sort.Condition ∷ Sort.Register ∷ []
sorts_of Form.Link = Sort.Register ∷ Sort.Value ∷ []
sorts_of Form.LinkAddress = Sort.Value ∷ []
sorts_of (Form.Short scale) = Sort.Register ∷ Sort.Place ∷ []
sorts_of Form.Long = Sort.Register ∷ Sort.Place ∷ []
sorts_of Form.ThreeRegisters = Sort.Register ∷ Sort.Register ∷ Sort.Register ∷ []
sorts_of Form.Count = Sort.Register ∷ Sort.Value ∷ []
sorts_of Form.TwoRegisters = Sort.Register ∷ Sort.Register ∷ []
sorts_of Form.Signed = Sort.Register ∷ Sort.Register ∷ Sort.Value ∷ []
sorts_of Form.Unsigned = Sort.Register ∷ Sort.Register ∷ Sort.Value ∷ []
sorts_of Form.Compare = Sort.Register ∷ Sort.Value ∷ []
sorts_of Form.Trap = Sort.Value ∷ Sort.Register ∷ Sort.Value ∷ []
sorts_of Form.Call = Sort.Value ∷ []
