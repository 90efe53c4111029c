-- Rows made ready: decoded once, each with its operand as it is used.
use Rattle.std.specs.Prelude.{◌≡◌, ℕ, ◌+◌, ◌-◌, ◌*◌, ◌%◌, ◌==◌, nat_lt, nat_le, not, if◌then◌else◌, Bool, true, false, List, slice_index, Option, Some, None, IfSome, bit_and, bit_or, bit_xor, Result}
use Rattle.flat_machine.specs.declared.ready.Ready.{Ready}
use Rattle.flat_machine.specs.Work.{base, loads_byte, loads_half, loads_words, stores_byte, stores_half, stores_words, traps, is_masked, work_of_r}
use Rattle.flat_machine.specs.Branches.{condition, even, branch_to}
use Rattle.flat_machine.specs.Effect.{worked}
use Rattle.flat_machine.specs.Row.{plan, plan_of, plan_alone, plan_of_branch}
use Rattle.flat_machine.specs.Below.{Op, Inst}
use Rattle.flat_machine.specs.declared.machine.Cs.{Cs}
use Rattle.flat_machine.specs.declared.machine.Act.{Act}
use Rattle.flat_machine.specs.declared.ready.Doing.{Doing}
use Rattle.flat_machine.specs.Plans.{Plan, Does, Work, Put, Signed, Sum, Compare, Want}
use Rattle.flat_machine.specs.Status.{is_negative}
use Rattle.flat_machine.specs.Words.{extended, complement, biased, shifted_left, shifted_right, shifted_signed, bit, sum_of, word_difference}

-- whether a row made ready has a second halfword
abbrev pub has_second : Ready → Bool
has_second row = row.bytes == 4

-- Below b is the row's field B, x, y and z are the values of registers B and C and of register C as a base, and i is its operand.

-- the rows that load and store, from an address on
abbrev pub access_made : Doing → (b address y : ℕ) → Work
access_made Doing.LoadByte b address y = loads_byte address b
access_made Doing.LoadHalf b address y = loads_half address b false
access_made Doing.LoadHalfSigned b address y = loads_half address b true
access_made Doing.LoadHalfAt b address y = loads_half y b false
access_made Doing.LoadWord b address y = loads_words address 4 b
access_made Doing.LoadWords b address y = loads_words address (4 * (16 - b)) b
access_made Doing.StoreByte b address y = stores_byte address b
access_made Doing.StoreHalf b address y = stores_half address b
access_made Doing.StoreWord b address y = stores_words address 4 b
access_made Doing.StoreWords b address y = stores_words address (4 * (16 - b)) b
access_made Doing.LoadByteShort b address y = loads_byte address b
access_made Doing.LoadHalfSignedShort b address y = loads_half address b true
access_made Doing.LoadWordShort b address y = loads_words address 4 b
access_made Doing.StoreByteShort b address y = stores_byte address b
access_made Doing.StoreHalfShort b address y = stores_half address b
access_made Doing.StoreWordShort b address y = stores_words address 4 b
access_made _ b address y = Want Act.Nothing

-- the rows of two registers, and those that load and store
abbrev pub work_of_two : Doing → Cs → (b x y z i : ℕ) → Work
work_of_two Doing.Add cs b x y z i = Sum b x y 0
work_of_two Doing.AddCarry cs b x y z i = Sum b x y (bit cs.c0)
work_of_two Doing.Subtract cs b x y z i = Sum b x (complement y) 1
work_of_two Doing.SubtractCarry cs b x y z i = Sum b x (complement y) (bit cs.c0)
work_of_two Doing.SubtractFrom cs b x y z i = Sum b y (complement x) 1
work_of_two Doing.Negate cs b x y z i = Sum b 0 (complement y) 1
work_of_two Doing.Magnitude cs b x y z i = Signed b (if is_negative y then word_difference 0 y else y)
work_of_two Doing.Invert cs b x y z i = Signed b (complement y)
work_of_two Doing.Extend cs b x y z i = Signed b (extended 16 (y % 65536))
work_of_two Doing.And cs b x y z i = Signed b (bit_and x y)
work_of_two Doing.Or cs b x y z i = Signed b (bit_or x y)
work_of_two Doing.Differ cs b x y z i = Signed b (bit_xor x y)
work_of_two Doing.ShiftLeft cs b x y z i = Signed b (shifted_left x (y % 64))
work_of_two Doing.ShiftRight cs b x y z i = Signed b (shifted_right x (y % 64))
work_of_two Doing.ShiftSigned cs b x y z i = Signed b (shifted_signed x (y % 64))
work_of_two Doing.Compare cs b x y z i = Compare x y
work_of_two Doing.CompareSigned cs b x y z i = Compare (biased x) (biased y)
work_of_two Doing.TrapIfBelow cs b x y z i = traps (nat_lt x y)
work_of_two Doing.TrapUnlessBelow cs b x y z i = traps (nat_le y x)
work_of_two doing cs b x y z i = access_made doing b (sum_of z i 0) y

-- the rows with an operand, those of two registers, and those that load and store
abbrev pub work_made : Doing → List ℕ → Cs → (b x y z i : ℕ) → Work
work_made Doing.Take r cs b x y z i = Put b i
work_made Doing.Increase r cs b x y z i = Put b (sum_of y i 0)
work_made Doing.Decrease r cs b x y z i = Put b (word_difference y i)
work_made Doing.Address r cs b x y z i = Put b (sum_of z i 0)
work_made Doing.AddressOfTwo r cs b x y z i = Put b (sum_of (slice_index r (i % 16)) z 0)
work_made Doing.AddOperand r cs b x y z i = Sum b y i 0
work_made Doing.AddOperandShort r cs b x y z i = Sum b y i 0
work_made Doing.AddOperandCarry r cs b x y z i = Sum b y i (bit cs.c0)
work_made Doing.AddOperandOne r cs b x y z i = Sum b y i 1
work_made Doing.SubtractFromOperand r cs b x y z i = Sum b i (complement y) 1
work_made Doing.AndOperand r cs b x y z i = Signed b (bit_and y i)
work_made Doing.OrOperand r cs b x y z i = Signed b (bit_or y i)
work_made Doing.AndOperandShort r cs b x y z i = Signed b (bit_and y i)
work_made Doing.OrOperandShort r cs b x y z i = Signed b (bit_or y i)
work_made Doing.DifferOperand r cs b x y z i = Signed b (bit_xor y i)
work_made Doing.ShiftLeftBy r cs b x y z i = Signed b (shifted_left x (i % 64))
work_made Doing.ShiftRightBy r cs b x y z i = Signed b (shifted_right x (i % 64))
work_made Doing.ShiftSignedBy r cs b x y z i = Signed b (shifted_signed x (i % 64))
work_made Doing.CompareOperand r cs b x y z i = Compare y i
work_made Doing.CompareSignedOperand r cs b x y z i = Compare (biased y) i
work_made Doing.CompareSignedOperandShort r cs b x y z i = Compare (biased y) i
work_made Doing.TrapIfMasked r cs b x y z i = traps (is_masked b (biased y) i)
work_made doing r cs b x y z i = work_of_two doing cs b x y z i

-- control goes to an address where a row is taken, or else to the one after it; nothing else changes
abbrev pub goes_if : Bool → (to after : ℕ) → (registers : List ℕ) → Cs → Plan
goes_if taken to after registers status = Does registers status Act.Nothing (if taken then to else after) None

-- control goes to an address, and a register gets the one after the row; nothing else changes
abbrev pub goes_with_link : (to b after : ℕ) → (registers : List ℕ) → Cs → Plan
goes_with_link to b after registers status = Does registers status Act.Nothing to (Some (b, after))

-- the rows that go to the address that a register has, with or without a link, and those that do no branch
abbrev pub done_by_register : Ready → (registers : List ℕ) → Cs → (after y : ℕ) → Doing → Plan
done_by_register row r cs after y Doing.GoTo = goes_if true (even y) after r cs
done_by_register row r cs after y Doing.GoToIf = goes_if (condition cs row.b) (even y) after r cs
done_by_register row r cs after y Doing.GoToUnless = goes_if (not (condition cs row.b)) (even y) after r cs
done_by_register row r cs after y Doing.LinkTo = goes_with_link (even y) row.b after r cs
done_by_register row r cs after y doing = plan_alone (worked r cs (work_made doing r cs row.b (slice_index r row.b) y (base r row.c) row.i)) after

-- the rows that go to their operand, and all others
abbrev pub done_by : Ready → (registers : List ℕ) → Cs → (after : ℕ) → Doing → Plan
done_by row r cs after Doing.Stay = goes_if false row.i after r cs
done_by row r cs after Doing.Go = goes_if true row.i after r cs
done_by row r cs after Doing.GoIfLess = goes_if cs.lt row.i after r cs
done_by row r cs after Doing.GoIfEqual = goes_if cs.eq row.i after r cs
done_by row r cs after Doing.GoIfGreater = goes_if cs.gt row.i after r cs
done_by row r cs after Doing.GoIfCarry = goes_if cs.c0 row.i after r cs
done_by row r cs after Doing.GoIfOverflow = goes_if cs.ov row.i after r cs
done_by row r cs after Doing.GoUnlessLess = goes_if (not cs.lt) row.i after r cs
done_by row r cs after Doing.GoUnlessEqual = goes_if (not cs.eq) row.i after r cs
done_by row r cs after Doing.GoUnlessGreater = goes_if (not cs.gt) row.i after r cs
done_by row r cs after Doing.GoUnlessCarry = goes_if (not cs.c0) row.i after r cs
done_by row r cs after Doing.GoUnlessOverflow = goes_if (not cs.ov) row.i after r cs
done_by row r cs after Doing.Link = goes_with_link row.i row.b after r cs
done_by row r cs after doing = done_by_register row r cs after (slice_index r row.c) doing

-- what a row made ready comes to at an address
abbrev pub done : Ready → (registers : List ℕ) → Cs → (iar : ℕ) → Plan
done row registers status iar = done_by row registers status (iar + row.bytes) row.doing

-- what goes on to the row after it, whatever it computes
abbrev pub GoesOn : Doing → Type 0
GoesOn doing =
    (row : Ready) (registers : List ℕ) (status : Cs) (after : ℕ)
    → done_by row registers status after doing
    ≡ plan_alone (worked registers status (work_made doing registers status row.b (slice_index registers row.b) (slice_index registers row.c) (base registers row.c) row.i)) after

-- a row made ready of an instruction of as many bytes: it comes to what the instruction is to do
abbrev pub IsReadyOf : Ready → Inst → (iar : ℕ) → Type 0
IsReadyOf row inst iar =
    (halfword_at : ℕ → Option ℕ) (registers : List ℕ) (status : Cs)
    → plan_of halfword_at inst row.bytes registers status iar ≡ done row registers status iar

-- a row made ready of two halfwords at an address: where they stand there, it comes to what the plan says; the second counts where it has one
abbrev pub IsReadyRowOf : Ready → (first second iar : ℕ) → Type 0
IsReadyRowOf row first second iar =
    (halfword_at : ℕ → Option ℕ) (registers : List ℕ) (status : Cs)
    → halfword_at iar ≡ Some first → (has_second row ≡ true → halfword_at (iar + 2) ≡ Some second)
    → plan halfword_at registers status iar ≡ done row registers status iar

-- a row made ready of the halfwords that stand at an address
pub record IsReadyAt (row : Ready) (halfword_at : ℕ → Option ℕ) (iar : ℕ) : Type 0 where
  pub first : ℕ
  pub second : ℕ
  pub at_first : halfword_at iar ≡ Some first
  pub at_second : has_second row ≡ true → halfword_at (iar + 2) ≡ Some second
  pub of_row : IsReadyRowOf row first second iar

-- a row made ready of an instruction of so many bytes at an address
pub record IsMade (inst : Inst) (count iar : ℕ) (row : Ready) : Type 0 where
  pub value : IsReadyOf row inst iar
  pub bytes : row.bytes ≡ count

-- what does what a branch or jump by a condition does, whatever its operand
abbrev pub IsJump : Op → (field : ℕ) → Doing → Type 0
IsJump op field doing =
    (row : Ready) (subject : Result (Inst × ℕ) ℕ) (registers : List ℕ) (status : Cs) (after : ℕ)
    → plan_of_branch (branch_to op field status row.i) subject registers status after ≡ done_by row registers status after doing

-- what does this work with an operand, and goes on to the row after it
pub record DoesWork (work : List ℕ → Cs → (b x y z : ℕ) → Work) (doing : Doing) (i : ℕ) : Type 0 where
  pub value :
      (registers : List ℕ) (status : Cs) (b x y z : ℕ) → work_made doing registers status b x y z i ≡ work registers status b x y z
  pub goes_on : GoesOn doing

-- what is made does this work with its operand
abbrev pub MakesWork : (List ℕ → Cs → (b x y z : ℕ) → Work) → Option (Doing × ℕ) → Type 0
MakesWork work result = IfSome result (λ made. DoesWork work made.0 made.1)

-- what does the work of a row of two registers, with whatever operand
abbrev pub DoesTwo : Op → Doing → Type 0
DoesTwo op doing = (c i : ℕ) → DoesWork (λ registers status b x y z. work_of_r op b c x y status) doing i

-- what does the work of a row with a number in field C, where register B stands for register C too
pub record DoesCount (op : Op) (k : ℕ) (doing : Doing) (i : ℕ) : Type 0 where
  pub value :
      (registers : List ℕ) (status : Cs) (b x y z : ℕ) → work_made doing registers status b x x z i ≡ work_of_r op b k x y status
  pub goes_on : GoesOn doing
