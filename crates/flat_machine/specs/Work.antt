-- What each row that neither branches nor jumps computes. In a row b and c are its fields, x and y the values of registers
-- B and C, z that of register C or 0 where field C is 0, k a field of four bits and i the field of sixteen.
use Rattle.std.specs.Prelude.{ℕ, ◌+◌, ◌-◌, ◌*◌, ◌/◌, ◌%◌, ◌^◌, nat_lt, nat_le, ◌==◌, ◌&&◌, ◌||◌, if◌then◌else◌, Bool, true, false, List, slice_index, bit_and, bit_or, bit_xor}
use Rattle.flat_machine.specs.Below.{Inst, Op}
use Rattle.flat_machine.specs.declared.machine.Cs.{Cs}
use Rattle.flat_machine.specs.declared.machine.Act.{Act}
use Rattle.flat_machine.specs.Plans.{Work, Put, Signed, Sum, Compare, Want}
use Rattle.flat_machine.specs.Status.{is_negative}
use Rattle.flat_machine.specs.Words.{extended, complement, biased, single_bit, shifted_left, shifted_right, shifted_signed, bit, sum_of, word_difference}

-- the value of a base register, where field 0 means zero
abbrev pub base : List ℕ → ℕ → ℕ
base registers c = if c == 0 then 0 else slice_index registers c

-- the address of a halfword, its lowest bit taken as zero
abbrev pub half_address : ℕ → ℕ
half_address address = address - address % 2

-- the address of a word, its two lowest bits taken as zero
abbrev pub word_address : ℕ → ℕ
word_address address = address - address % 4

-- a load and a store of one byte, one halfword, or words up to so many bytes
abbrev pub loads_byte : (address to : ℕ) → Work
loads_byte address to = Want (Act.Load address 1 to false)

abbrev pub loads_half : (address to : ℕ) → Bool → Work
loads_half address to sign = Want (Act.Load (half_address address) 2 to sign)

abbrev pub loads_words : (address bytes to : ℕ) → Work
loads_words address bytes to = Want (Act.Load (word_address address) bytes to false)

abbrev pub stores_byte : (address from : ℕ) → Work
stores_byte address from = Want (Act.Store address 1 from)

abbrev pub stores_half : (address from : ℕ) → Work
stores_half address from = Want (Act.Store (half_address address) 2 from)

abbrev pub stores_words : (address bytes from : ℕ) → Work
stores_words address bytes from = Want (Act.Store (word_address address) bytes from)

-- a trap: check 3 where it is taken
abbrev pub traps : Bool → Work
traps taken = Want (if taken then Act.Check 3 else Act.Nothing)

-- whether one number stands to another in a way that a mask has: 4 less, 2 equal, 1 greater
abbrev pub is_masked : (mask x y : ℕ) → Bool
is_masked mask x y = (mask / 4 % 2 == 1 && nat_lt x y) || (mask / 2 % 2 == 1 && (x == y)) || (mask % 2 == 1 && nat_lt y x)

-- the supervisor call with this number
abbrev pub called : List ℕ → ℕ → Act
called registers number =
    if number == 0 then Act.Commit
    else if number == 1 then Act.Print (slice_index registers 2 % 2 ^ 8)
    else if number == 2 then Act.Check 8
    else Act.Check 6

-- the rows of format R with a number k in field C
abbrev pub work_with_count : Op → (b k x : ℕ) → Work
work_with_count Op.Ais b k x = Sum b x k 0
work_with_count Op.Sis b k x = Sum b x (complement k) 1
work_with_count Op.Inc b k x = Put b (sum_of x k 0)
work_with_count Op.Dec b k x = Put b (word_difference x k)
work_with_count Op.Lis b k x = Put b k
work_with_count Op.Cis b k x = Compare (biased x) (biased k)
work_with_count Op.Clrbu b k x = Signed b (bit_and x (complement (single_bit k)))
work_with_count Op.Clrbl b k x = Signed b (bit_and x (complement (single_bit (16 + k))))
work_with_count Op.Setbu b k x = Signed b (bit_or x (single_bit k))
work_with_count Op.Setbl b k x = Signed b (bit_or x (single_bit (16 + k)))
work_with_count Op.Sari b k x = Signed b (shifted_signed x k)
work_with_count Op.Sari16 b k x = Signed b (shifted_signed x (k + 16))
work_with_count Op.Sri b k x = Signed b (shifted_right x k)
work_with_count Op.Sri16 b k x = Signed b (shifted_right x (k + 16))
work_with_count Op.Sli b k x = Signed b (shifted_left x k)
work_with_count Op.Sli16 b k x = Signed b (shifted_left x (k + 16))
work_with_count _ b k x = Want (Act.Check 1)

-- the rows of format R with two registers, and those with a number
abbrev pub work_of_r : Op → (b c x y : ℕ) → Cs → Work
work_of_r Op.Sar b c x y cs = Signed b (shifted_signed x (y % 64))
work_of_r Op.Sr b c x y cs = Signed b (shifted_right x (y % 64))
work_of_r Op.Sl b c x y cs = Signed b (shifted_left x (y % 64))
work_of_r Op.Exts b c x y cs = Signed b (extended 16 (y % 2 ^ 16))
work_of_r Op.Sf b c x y cs = Sum b y (complement x) 1
work_of_r Op.S b c x y cs = Sum b x (complement y) 1
work_of_r Op.A b c x y cs = Sum b x y 0
work_of_r Op.Ae b c x y cs = Sum b x y (bit cs.c0)
work_of_r Op.Se b c x y cs = Sum b x (complement y) (bit cs.c0)
work_of_r Op.Cl b c x y cs = Compare x y
work_of_r Op.C b c x y cs = Compare (biased x) (biased y)
work_of_r Op.Tgte b c x y cs = traps (nat_le y x)
work_of_r Op.Tlt b c x y cs = traps (nat_lt x y)
work_of_r Op.Abs b c x y cs = Signed b (if is_negative y then word_difference 0 y else y)
work_of_r Op.Twoc b c x y cs = Sum b 0 (complement y) 1
work_of_r Op.Onec b c x y cs = Signed b (complement y)
work_of_r Op.O b c x y cs = Signed b (bit_or x y)
work_of_r Op.N b c x y cs = Signed b (bit_and x y)
work_of_r Op.X b c x y cs = Signed b (bit_xor x y)
work_of_r Op.Lhs b c x y cs = loads_half y b false
work_of_r op b c x y cs = work_with_count op b c x

-- the rows of format D that load and store, at an effective address
abbrev pub access_of_d : Op → (b address : ℕ) → Work
access_of_d Op.Lm b address = loads_words address (4 * (16 - b)) b
access_of_d Op.Stm b address = stores_words address (4 * (16 - b)) b
access_of_d Op.Lc b address = loads_byte address b
access_of_d Op.Lh b address = loads_half address b false
access_of_d Op.Lha b address = loads_half address b true
access_of_d Op.L b address = loads_words address 4 b
access_of_d Op.Stc b address = stores_byte address b
access_of_d Op.Sth b address = stores_half address b
access_of_d Op.St b address = stores_words address 4 b
access_of_d _ b address = Want (Act.Check 1)

-- the logical rows of format D, and those that load and store
abbrev pub logic_of_d : Op → (b y z i : ℕ) → Work
logic_of_d Op.Oiu b y z i = Signed b (bit_or y (i * 2 ^ 16))
logic_of_d Op.Oil b y z i = Signed b (bit_or y i)
logic_of_d Op.Xiu b y z i = Signed b (bit_xor y (i * 2 ^ 16))
logic_of_d Op.Xil b y z i = Signed b (bit_xor y i)
logic_of_d Op.Nilz b y z i = Signed b (bit_and y i)
logic_of_d Op.Nilo b y z i = Signed b (bit_and y (0xFFFF0000 + i))
logic_of_d Op.Niuz b y z i = Signed b (bit_and y (i * 2 ^ 16))
logic_of_d Op.Niuo b y z i = Signed b (bit_and y (i * 2 ^ 16 + 0xFFFF))
logic_of_d op b y z i = access_of_d op b (sum_of z (extended 16 i) 0)

-- the rows of format D
abbrev pub work_of_d : Op → List ℕ → Cs → (b y z i : ℕ) → Work
work_of_d Op.Svc r cs b y z i = Want (called r i)
work_of_d Op.Ai r cs b y z i = Sum b y (extended 16 i) 0
work_of_d Op.Aei r cs b y z i = Sum b y (extended 16 i) (bit cs.c0)
work_of_d Op.Sfi r cs b y z i = Sum b (extended 16 i) (complement y) 1
work_of_d Op.Cli r cs b y z i = Compare y (extended 16 i)
work_of_d Op.Ci r cs b y z i = Compare (biased y) (biased (extended 16 i))
work_of_d Op.Ti r cs b y z i = traps (is_masked b (biased y) (biased (extended 16 i)))
work_of_d Op.Cal r cs b y z i = Put b (sum_of z (extended 16 i) 0)
work_of_d Op.Cau r cs b y z i = Put b (sum_of z (i * 2 ^ 16) 0)
work_of_d op r cs b y z i = logic_of_d op b y z i

-- the rows of format S
abbrev pub work_of_s : Op → (k b z : ℕ) → Work
work_of_s Op.Stcs k b z = stores_byte (sum_of z k 0) b
work_of_s Op.Sths k b z = stores_half (sum_of z (k * 2) 0) b
work_of_s Op.Sts k b z = stores_words (sum_of z (k * 4) 0) 4 b
work_of_s Op.Lcs k b z = loads_byte (sum_of z k 0) b
work_of_s Op.Lhas k b z = loads_half (sum_of z (k * 2) 0) b true
work_of_s Op.Ls k b z = loads_words (sum_of z (k * 4) 0) 4 b
work_of_s _ k b z = Want (Act.Check 1)

-- the row of format X
abbrev pub work_of_x : Op → (a x z : ℕ) → Work
work_of_x Op.Cas a x z = Put a (sum_of x z 0)
work_of_x _ a x z = Want (Act.Check 1)

-- a row that neither branches nor jumps
abbrev pub work_of : Inst → List ℕ → Cs → Work
work_of (Inst.S op k b c) r cs = work_of_s op k b (base r c)
work_of (Inst.X op a b c) r cs = work_of_x op a (slice_index r b) (base r c)
work_of (Inst.R op b c) r cs = work_of_r op b c (slice_index r b) (slice_index r c) cs
work_of (Inst.D op b c i) r cs = work_of_d op r cs b (slice_index r c) (base r c) i
work_of _ r cs = Want (Act.Check 1)
