-- How many bytes a row made ready has.
use Rattle.std.specs.Prelude.{ℕ}
use Rattle.flat_machine.specs.Below.{Inst}
use Rattle.flat_machine.specs.declared.ready.Doing.{Doing}

-- the bytes of an instruction, by its format
abbrev pub inst_length : Inst → ℕ
inst_length (Inst.J op cond disp) = 2
inst_length (Inst.S op k b c) = 2
inst_length (Inst.X op a b c) = 2
inst_length (Inst.R op b c) = 2
inst_length (Inst.D op b c i) = 4
inst_length (Inst.BI op b disp) = 4
inst_length (Inst.BA op to) = 4

-- the bytes of a row by what it does: a jump by a condition has as many as it has
abbrev pub length_made : Doing → (bytes : ℕ) → ℕ
length_made Doing.Stay bytes = bytes
length_made Doing.Go bytes = bytes
length_made Doing.GoIfLess bytes = bytes
length_made Doing.GoIfEqual bytes = bytes
length_made Doing.GoIfGreater bytes = bytes
length_made Doing.GoIfCarry bytes = bytes
length_made Doing.GoIfOverflow bytes = bytes
length_made Doing.GoUnlessLess bytes = bytes
length_made Doing.GoUnlessEqual bytes = bytes
length_made Doing.GoUnlessGreater bytes = bytes
length_made Doing.GoUnlessCarry bytes = bytes
length_made Doing.GoUnlessOverflow bytes = bytes
length_made Doing.Link bytes = 4
length_made Doing.Address bytes = 4
length_made Doing.AddOperand bytes = 4
length_made Doing.AddOperandCarry bytes = 4
length_made Doing.SubtractFromOperand bytes = 4
length_made Doing.AndOperand bytes = 4
length_made Doing.OrOperand bytes = 4
length_made Doing.DifferOperand bytes = 4
length_made Doing.CompareOperand bytes = 4
length_made Doing.CompareSignedOperand bytes = 4
length_made Doing.TrapIfMasked bytes = 4
length_made Doing.LoadByte bytes = 4
length_made Doing.LoadHalf bytes = 4
length_made Doing.LoadHalfSigned bytes = 4
length_made Doing.LoadWord bytes = 4
length_made Doing.LoadWords bytes = 4
length_made Doing.StoreByte bytes = 4
length_made Doing.StoreHalf bytes = 4
length_made Doing.StoreWord bytes = 4
length_made Doing.StoreWords bytes = 4
length_made _ bytes = 2
