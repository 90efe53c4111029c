-- The bytes of an instruction.
use Rattle.std.specs.Prelude.{◌≡◌, ℕ, ℤ, pos, negsuc, suc, ◌+◌, ◌-◌, ◌*◌, ◌/◌, ◌%◌, ◌^◌, List, [], ◌∷◌, take, Option, IfSome, IfNone}
use Rattle.std.specs.Option.{option_map_or}
use Rattle.romp_table.specs.Rows.{row_of}
use Rattle.romp_table.specs.Decode.{decoded}
use Rattle.romp_table.specs.Legal.{HasWidths, IsLegal, op_of}
use Rattle.romp_table.specs.declared.inst.Op.{Op}
use Rattle.romp_table.specs.declared.inst.Inst.{Inst}
use Rattle.romp_table.specs.declared.inst.Code.{Code}

-- the number of an operation
abbrev pub op_number : Op → ℕ
op_number op = option_map_or (λ row. row.number) (row_of op) 0

-- the n bits of a signed number: the number that is equal to it modulo 2^n
abbrev pub field_bits : ℕ → ℤ → ℕ
field_bits n (pos m) = m
field_bits n (negsuc m) = 2 ^ n - suc m

-- the first halfword of an instruction with this number
abbrev pub first_with : ℕ → Inst → ℕ
first_with number (Inst.J op cond disp) = number * 2 ^ 11 + cond * 2 ^ 8 + field_bits 8 disp
first_with number (Inst.S op k b c) = number * 2 ^ 12 + k * 2 ^ 8 + b * 2 ^ 4 + c
first_with number (Inst.X op a b c) = number * 2 ^ 12 + a * 2 ^ 8 + b * 2 ^ 4 + c
first_with number (Inst.R op b c) = number * 2 ^ 8 + b * 2 ^ 4 + c
first_with number (Inst.D op b c i) = number * 2 ^ 8 + b * 2 ^ 4 + c
first_with number (Inst.BI op b disp) = number * 2 ^ 8 + b * 2 ^ 4 + field_bits 20 disp / 2 ^ 16
first_with number (Inst.BA op to) = number * 2 ^ 8 + to / 2 ^ 16

-- the first halfword of an instruction
abbrev pub first_of : Inst → ℕ
first_of inst = first_with (op_number (op_of inst)) inst

-- the second halfword of an instruction, and 0 where it has none
abbrev pub second_of : Inst → ℕ
second_of (Inst.D op b c i) = i
second_of (Inst.BI op b disp) = field_bits 20 disp % 2 ^ 16
second_of (Inst.BA op to) = to % 2 ^ 16
second_of _ = 0

-- how many bytes an instruction has
abbrev pub inst_bytes : Inst → ℕ
inst_bytes (Inst.D op b c i) = 4
inst_bytes (Inst.BI op b disp) = 4
inst_bytes (Inst.BA op to) = 4
inst_bytes _ = 2

-- the bytes of two halfwords, the higher one of each first
abbrev pub halfword_bytes : ℕ → ℕ → List ℕ
halfword_bytes first second = first / 2 ^ 8 ∷ first % 2 ^ 8 ∷ second / 2 ^ 8 ∷ second % 2 ^ 8 ∷ []

-- the bytes of an instruction, filled up with zeros
abbrev pub encoded : Inst → Code
encoded inst = record { bytes = halfword_bytes (first_of inst) (second_of inst); len = inst_bytes inst }

-- two halfwords begin with the bytes of an instruction; the second counts where it has four bytes alone
abbrev pub BeginWith : ℕ → ℕ → Code → Type 0
BeginWith first second code = take code.len (halfword_bytes first second) ≡ take code.len code.bytes

-- What two halfwords are: the one legal instruction whose bytes they begin with, and none where there is no such.
pub record IsDecoded (first second : ℕ) (result : Option Inst) : Type 0 where
  pub value : result ≡ decoded first second
  pub legal : IfSome result IsLegal
  pub widths : IfSome result HasWidths
  pub back : IfSome result (λ inst. BeginWith first second (encoded inst))
  pub none : IfNone result ((inst : Inst) → IsLegal inst → ¬ (BeginWith first second (encoded inst)))
