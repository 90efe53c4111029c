-- Branches and jumps.
use Rattle.std.specs.Prelude.{ℕ, ◌-◌, ◌%◌, ◌^◌, ℤ, pos, negsuc, ◌+ℤ◌, ◌*ℤ◌, ◌==◌, not, if◌then◌else◌, Bool, true, false, List, slice_index, Option, Some, None}
use Rattle.flat_machine.specs.Below.{Inst, Op, op_of}
use Rattle.flat_machine.specs.declared.machine.Cs.{Cs}
use Rattle.flat_machine.specs.declared.machine.Branch.{Branch}

-- the value of a condition field: pz, lt, eq, gt, c0, ov
abbrev pub condition : Cs → ℕ → Bool
condition cs field =
    if field == 1 then cs.lt
    else if field == 2 then cs.eq
    else if field == 3 then cs.gt
    else if field == 4 then cs.c0
    else if field == 5 then cs.ov
    else false

-- an address with its lowest bit taken as zero
abbrev pub even : ℕ → ℕ
even n = n - n % 2

-- the address so many bytes away, its lowest bit taken as zero
abbrev pub target : ℕ → ℤ → ℕ
target address away = even (wrapped (pos address +ℤ away))
  where
    wrapped : ℤ → ℕ
    wrapped (pos n) = n % 2 ^ 32
    wrapped (negsuc n) = 2 ^ 32 - 1 - n % 2 ^ 32

-- whether a row of format R branches
abbrev pub is_register_branch : Op → Bool
is_register_branch Op.Bnbr = true
is_register_branch Op.Bnbrx = true
is_register_branch Op.Bbr = true
is_register_branch Op.Bbrx = true
is_register_branch Op.Balr = true
is_register_branch Op.Balrx = true
is_register_branch _ = false

-- whether an instruction branches or jumps
abbrev pub is_branch : Inst → Bool
is_branch (Inst.J op cond disp) = true
is_branch (Inst.R op b c) = is_register_branch op
is_branch (Inst.BI op b disp) = true
is_branch (Inst.BA op to) = true
is_branch _ = false

-- whether a branch is taken: always, where its condition is 1, or where it is 0
abbrev pub is_taken : Op → Cs → ℕ → Bool
is_taken Op.Balr cs field = true
is_taken Op.Balrx cs field = true
is_taken Op.Bali cs field = true
is_taken Op.Balix cs field = true
is_taken Op.Bala cs field = true
is_taken Op.Balax cs field = true
is_taken Op.Jb cs field = condition cs field
is_taken Op.Bb cs field = condition cs field
is_taken Op.Bbx cs field = condition cs field
is_taken Op.Bbr cs field = condition cs field
is_taken Op.Bbrx cs field = condition cs field
is_taken _ cs field = not (condition cs field)

-- the register that gets the link, if the row has one: that of field B, or another one
abbrev pub link_of : Op → ℕ → Option ℕ
link_of Op.Balr b = Some b
link_of Op.Balrx b = Some b
link_of Op.Bali b = Some b
link_of Op.Balix b = Some b
link_of Op.Bala b = Some 15
link_of Op.Balax b = Some 15
link_of _ b = None

-- whether the instruction after a branch is its subject
abbrev pub executes : Op → Bool
executes Op.Bnbrx = true
executes Op.Bbrx = true
executes Op.Balrx = true
executes Op.Bnbx = true
executes Op.Bbx = true
executes Op.Balix = true
executes Op.Balax = true
executes _ = false

-- a branch with this operation and field B, to this address if it is taken
abbrev pub branch_to : Op → ℕ → Cs → ℕ → Branch
branch_to op b cs to = record { to = if is_taken op cs b then Some to else None; link = link_of op b; execute = executes op }

-- a branch or jump at an address
abbrev pub branch_of : Inst → List ℕ → Cs → ℕ → Branch
branch_of (Inst.J op cond disp) r cs address = branch_to op cond cs (target address (pos 2 *ℤ disp))
branch_of (Inst.BI op b disp) r cs address = branch_to op b cs (target address (pos 2 *ℤ disp))
branch_of (Inst.BA op to) r cs address = branch_to op 0 cs (even to)
branch_of (Inst.R op b c) r cs address = branch_to op b cs (even (slice_index r c))
branch_of inst r cs address = branch_to (op_of inst) 0 cs 0

-- whether an instruction may be a subject: no branch, jump, trap or supervisor call
abbrev pub may_be_subject : Inst → Bool
may_be_subject (Inst.R Op.Tgte b c) = false
may_be_subject (Inst.R Op.Tlt b c) = false
may_be_subject (Inst.D Op.Ti b c i) = false
may_be_subject (Inst.D Op.Svc b c i) = false
may_be_subject inst = not (is_branch inst)
