-- The fields of each format, written and read again.
use Rattle.romp_table.proofs.Common.{number_unit, instruction_by, nibble, HasWidths, op_of, format_of, first_with, second_of, inst_bytes, halfword_bytes, Op, Inst, Format, nat_tests, ◌≡◌, ℕ, ◌+◌, ◌*◌, ◌/◌, ◌%◌, ◌^◌, ◌<◌, List, ◌∷◌, [], take, get_or, refl, ap, arith}
use Rattle.romp_table.proofs.SignLemmas.{bits-signed_8, bits-signed_20, bits_small_8, bits_small_20, signed-bits_8, signed-bits_20}

-- the number of a first halfword is that of its row
pub numbered : (inst : Inst) (number : ℕ) → HasWidths inst → first_with number inst / number_unit (format_of inst) ≡ number
numbered (Inst.J op cond disp) number w = let h = bits_small_8 disp w.1 in omega arith
numbered (Inst.BI op b disp) number w = let h = bits_small_20 disp w.1 in omega arith
numbered _ number w = omega arith

nibbles : (number k b c : ℕ) → k < 16 → b < 16 → c < 16
    → let first = number * 2 ^ 12 + k * 2 ^ 8 + b * 2 ^ 4 + c in (nibble first 8 ≡ k) × (nibble first 4 ≡ b) × (nibble first 0 ≡ c)
nibbles number k b c small also too = (omega arith, omega arith, omega arith)

-- what is read from the halfwords of an instruction is the instruction
pub read-written : (inst : Inst) (number : ℕ) → HasWidths inst → instruction_by (op_of inst) (format_of inst) (first_with number inst) (second_of inst) ≡ inst
read-written inst number w = grind (arith, nat_tests, bits_small_8, signed-bits_8, nibbles, bits_small_20, signed-bits_20)

two_bytes : (first first' second second' : ℕ) → first ≡ first' → take 2 (halfword_bytes first second) ≡ take 2 (halfword_bytes first' second')
two_bytes first first' second second' e = ap (λ n. n / 2 ^ 8 ∷ n % 2 ^ 8 ∷ []) e

four_bytes : (first first' second second' : ℕ) → first ≡ first' → second ≡ second' → halfword_bytes first second ≡ halfword_bytes first' second'
four_bytes first first' second second' e f = λ i. halfword_bytes (e i) (f i)

-- what is written of an instruction that was read is what was read
pub written-read : (op : Op) (format : Format) (first second number : ℕ) → second < 2 ^ 16 → first / number_unit format ≡ number → let inst = instruction_by op format first second in take (inst_bytes inst) (halfword_bytes first second) ≡ take (inst_bytes inst) (halfword_bytes (first_with number inst) (second_of inst))
written-read op Format.J first second number small e = grind (arith, nat_tests, bits-signed_8, two_bytes)
written-read op Format.S first second number small e = two_bytes first (number * 2 ^ 12 + nibble first 8 * 2 ^ 8 + nibble first 4 * 2 ^ 4 + nibble first 0) second 0 (omega arith)
written-read op Format.X first second number small e = two_bytes first (number * 2 ^ 12 + nibble first 8 * 2 ^ 8 + nibble first 4 * 2 ^ 4 + nibble first 0) second 0 (omega arith)
written-read op Format.R first second number small e = two_bytes first (number * 2 ^ 8 + nibble first 4 * 2 ^ 4 + nibble first 0) second 0 (omega arith)
written-read op Format.D first second number small e = four_bytes first (number * 2 ^ 8 + nibble first 4 * 2 ^ 4 + nibble first 0) second second (omega arith) refl
written-read op Format.BI first second number small e = grind (arith, nat_tests, bits-signed_20, four_bytes)
written-read op Format.BA first second number small e = grind (arith, nat_tests, four_bytes)

byte_told : (xs ys : List ℕ) (i : ℕ) → xs ≡ ys → get_or xs i 0 ≡ get_or ys i 0
byte_told xs ys i e = ap (λ zs. get_or zs i 0) e

told_2 : (first first' second second' : ℕ) → take 2 (halfword_bytes first second) ≡ take 2 (halfword_bytes first' second') → first ≡ first'
told_2 first first' second second' e = grind (arith, nat_tests, byte_told)

told_4 : (first first' second second' : ℕ) → halfword_bytes first second ≡ halfword_bytes first' second' → (first ≡ first') × (second ≡ second')
told_4 first first' second second' e =
    (told_2 first first' second second' (ap (take 2) e), told_2 second second' 0 0 (ap (λ zs. get_or zs 2 0 ∷ get_or zs 3 0 ∷ []) e))

-- the first halfword is told by the bytes of an instruction
pub first_told : (inst : Inst) (first first' second second' : ℕ) → take (inst_bytes inst) (halfword_bytes first second) ≡ take (inst_bytes inst) (halfword_bytes first' second') → first ≡ first'
first_told inst first first' second second' e = grind (arith, nat_tests, told_4, told_2)

-- halfwords with the same bytes of an instruction are read alike
pub read_alike : (inst : Inst) (op : Op) (first first' second second' : ℕ) → take (inst_bytes inst) (halfword_bytes first second) ≡ take (inst_bytes inst) (halfword_bytes first' second') → instruction_by op (format_of inst) first second ≡ instruction_by op (format_of inst) first' second'
read_alike inst op first first' second second' e = grind (arith, nat_tests, told_2, told_4)

pub op_kept : (op : Op) (format : Format) (first second : ℕ) → op_of (instruction_by op format first second) ≡ op
op_kept op Format.J first second = refl
op_kept op _ first second = refl

pub format_kept : (op : Op) (format : Format) (first second : ℕ) → format_of (instruction_by op format first second) ≡ format
format_kept op Format.J first second = refl
format_kept op _ first second = refl
