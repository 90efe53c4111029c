-- Rows and a program on a few states, with values worked out by hand.
use Rattle.flat_machine.proofs.Common.{◌≡◌, refl, ℕ, Bool, true, false, Some, None, Option, List, [], ◌∷◌, ◌++◌, map, take, drop, replicate, lit<, lit≤, Layout, Two, no_lines, row_numbered, Cs, Plain, Program, clear, Outcome, On, Commit, Check, row, with_link, touched, slice_index, option_map, flat_map, big_bytes, FlatStore, Activation, serial, after, halfword}

-- one page under register 1 to write, and under register 2 to read
abbrev pub program : Program
program =
    record {
      image = [];
      entry = 0;
      windows = Some (record { segment = 5; write = true }) ∷ Some (record { segment = 5; write = false }) ∷ Some (record { segment = 6; write = true }) ∷ replicate 12 None;
      image_fits = lit≤ tt;
      entry_fits = lit< tt;
      entry_is_even = refl;
    }

abbrev pub directory : Layout
directory = record { page = Two; segments = (4, 1) ∷ (5, 1) ∷ []; fine = 0 }

-- 64 in register 0, 1 in register 1, and two values in registers 2 and 3
abbrev pub holding : ℕ → ℕ → List ℕ
holding x y = 64 ∷ 1 ∷ x ∷ y ∷ replicate 12 0

abbrev pub status : Bool → Bool → Bool → Bool → Bool → Cs
status lt eq gt c0 ov = record { lt = lt; eq = eq; gt = gt; c0 = c0; ov = ov }

abbrev pub all : Cs
all = status true true true true true

-- a state at address 0 with this code, and eight bytes that aren't zero at the start of segment 5
abbrev pub state : List ℕ → List ℕ → Cs → Plain
state code registers cs =
    record {
      regs = registers;
      cs = cs;
      iar = 0;
      private = code;
      store = replicate 2048 0 ++ 0x11 ∷ 0x22 ∷ 0x33 ∷ 0x44 ∷ 0x80 ∷ 0x55 ∷ 0x66 ∷ 0x77 ∷ replicate 2040 0;
      out = [];
    }

abbrev pub outcome : List ℕ → List ℕ → Cs → Outcome
outcome code registers cs = row program directory (state code registers cs)

-- rows that were worked out: the code, registers 2 and 3 and the status before, and what is seen after
abbrev pub Worked : Type 0 → Type 0
Worked A = List ℕ × ℕ × ℕ × Cs × A

-- each comes to what was worked out
abbrev pub AreRight : {A : Type 0} → (Outcome → A) → List (Worked A) → Type 0
AreRight see rows = map (λ worked. see (outcome worked.0 (holding worked.1 worked.2) worked.3)) rows ≡ map (λ worked. worked.4) rows

abbrev pub as_is : Outcome → Outcome
as_is outcome = outcome

-- registers 0 to 3, status and address of a state that was gone on to
abbrev seen : Outcome → Option (List ℕ × Cs × ℕ)
seen (On s) = Some (take 4 s.regs, s.cs, s.iar)
seen _ = None

-- cau: register 0 as base is zero; the field is shifted and a carry is lost; the status stays
-- cal: the field has its sign; the status stays. cas: register 0 as base is zero; the status stays
-- a: carry without overflow, overflow without carry, both. ai: the field has its sign, and register 0 has its value
-- s: the carry is that of the sum with the complement. sis: the field itself, without a register
sums : AreRight seen (
    (0xD8 ∷ 0x30 ∷ 0x10 ∷ 0x00 ∷ [], 0, 0, all, Some (64 ∷ 1 ∷ 0 ∷ 0x10000000 ∷ [], all, 4))
    ∷ (0xD8 ∷ 0x32 ∷ 0xFF ∷ 0xFF ∷ [], 0x00020000, 0, clear, Some (64 ∷ 1 ∷ 0x00020000 ∷ 0x00010000 ∷ [], clear, 4))
    ∷ (0xC8 ∷ 0x32 ∷ 0xFF ∷ 0xFF ∷ [], 0, 0, all, Some (64 ∷ 1 ∷ 0 ∷ 0xFFFFFFFF ∷ [], all, 4))
    ∷ (0xC8 ∷ 0x30 ∷ 0x00 ∷ 0x05 ∷ [], 0, 0, clear, Some (64 ∷ 1 ∷ 0 ∷ 5 ∷ [], clear, 4))
    ∷ (0x63 ∷ 0x21 ∷ [], 0xFFFFFFFF, 7, all, Some (64 ∷ 1 ∷ 0xFFFFFFFF ∷ 0 ∷ [], all, 2))
    ∷ (0x63 ∷ 0x20 ∷ [], 9, 7, clear, Some (64 ∷ 1 ∷ 9 ∷ 9 ∷ [], clear, 2))
    ∷ (0xE1 ∷ 0x23 ∷ [], 0xFFFFFFFF, 1, clear, Some (64 ∷ 1 ∷ 0 ∷ 1 ∷ [], status false true false true false, 2))
    ∷ (0xE1 ∷ 0x23 ∷ [], 0x7FFFFFFF, 1, clear, Some (64 ∷ 1 ∷ 0x80000000 ∷ 1 ∷ [], status true false false false true, 2))
    ∷ (0xE1 ∷ 0x23 ∷ [], 0x80000000, 0x80000000, clear, Some (64 ∷ 1 ∷ 0 ∷ 0x80000000 ∷ [], status false true false true true, 2))
    ∷ (0xC1 ∷ 0x32 ∷ 0xFF ∷ 0xFF ∷ [], 0, 0, all, Some (64 ∷ 1 ∷ 0 ∷ 0xFFFFFFFF ∷ [], status true false false false false, 4))
    ∷ (0xC1 ∷ 0x30 ∷ 0x00 ∷ 0x05 ∷ [], 0, 0, clear, Some (64 ∷ 1 ∷ 0 ∷ 69 ∷ [], status false false true false false, 4))
    ∷ (0xE2 ∷ 0x23 ∷ [], 5, 3, clear, Some (64 ∷ 1 ∷ 2 ∷ 3 ∷ [], status false false true true false, 2))
    ∷ (0xE2 ∷ 0x23 ∷ [], 3, 5, clear, Some (64 ∷ 1 ∷ 0xFFFFFFFE ∷ 5 ∷ [], status true false false false false, 2))
    ∷ (0xE2 ∷ 0x23 ∷ [], 0x80000000, 1, clear, Some (64 ∷ 1 ∷ 0x7FFFFFFF ∷ 1 ∷ [], status false false true true true, 2))
    ∷ (0x92 ∷ 0x21 ∷ [], 0, 0, clear, Some (64 ∷ 1 ∷ 0xFFFFFFFF ∷ 0 ∷ [], status true false false false false, 2))
    ∷ (0x92 ∷ 0x22 ∷ [], 2, 0, clear, Some (64 ∷ 1 ∷ 0 ∷ 0 ∷ [], status false true false true false, 2))
    ∷ [])
unfolding row_numbered
sums = refl

-- l: the two lowest bits of the address count as zero
words : AreRight seen (
    (0xCD ∷ 0x32 ∷ 0x00 ∷ 0x07 ∷ [], 0x10000000, 0, all, Some (64 ∷ 1 ∷ 0x10000000 ∷ 0x80556677 ∷ [], all, 4))
    ∷ (0xCD ∷ 0x32 ∷ 0x00 ∷ 0x00 ∷ [], 0x100007FF, 9, all, Some (64 ∷ 1 ∷ 0x100007FF ∷ 0 ∷ [], all, 4))
    ∷ (0xCD ∷ 0x30 ∷ 0x00 ∷ 0x00 ∷ [], 0, 0, all, Some (64 ∷ 1 ∷ 0 ∷ 0xCD300000 ∷ [], all, 4))
    ∷ [])
unfolding row_numbered
words = refl

-- jb and jnb: taken and not taken, ahead and back
jumps : AreRight seen (
    (0x09 ∷ 0x0A ∷ [], 0, 0, status true false false false false, Some (64 ∷ 1 ∷ 0 ∷ 0 ∷ [], status true false false false false, 20))
    ∷ (0x09 ∷ 0x0A ∷ [], 0, 0, status false true true true true, Some (64 ∷ 1 ∷ 0 ∷ 0 ∷ [], status false true true true true, 2))
    ∷ (0x0D ∷ 0x02 ∷ [], 0, 0, status false false false false true, Some (64 ∷ 1 ∷ 0 ∷ 0 ∷ [], status false false false false true, 4))
    ∷ (0x02 ∷ 0xFB ∷ [], 0, 0, clear, Some (64 ∷ 1 ∷ 0 ∷ 0 ∷ [], clear, 0xFFFFFFF6))
    ∷ (0x02 ∷ 0xFB ∷ [], 0, 0, status false true false false false, Some (64 ∷ 1 ∷ 0 ∷ 0 ∷ [], status false true false false false, 2))
    ∷ (0x00 ∷ 0x00 ∷ [], 0, 0, all, Some (64 ∷ 1 ∷ 0 ∷ 0 ∷ [], all, 0))
    ∷ [])
unfolding row_numbered
jumps = refl

-- loads past the segment, under an absent window, in an absent segment, past the private bytes; a store through a window to read, where a range
-- past its end comes first; a field above 5 is no jump's; svc: commit, give up, no such call, no row; the fetch: nothing there, half a row of four
-- bytes, by its high byte alone, half of no row
checks : AreRight as_is (
    (0xCD ∷ 0x32 ∷ 0x00 ∷ 0x00 ∷ [], 0x10000800, 0, all, Check 2)
    ∷ (0xCD ∷ 0x32 ∷ 0x00 ∷ 0x00 ∷ [], 0x40000000, 0, all, Check 2)
    ∷ (0xCD ∷ 0x32 ∷ 0x00 ∷ 0x00 ∷ [], 0x30000000, 0, all, Check 2)
    ∷ (0xCD ∷ 0x32 ∷ 0x00 ∷ 0x00 ∷ [], 0x00004000, 0, all, Check 2)
    ∷ (0xDD ∷ 0x32 ∷ 0x00 ∷ 0x00 ∷ [], 0x20000000, 0, all, Check 7)
    ∷ (0xDD ∷ 0x32 ∷ 0x08 ∷ 0x00 ∷ [], 0x20000000, 0, all, Check 2)
    ∷ (0x0E ∷ 0x00 ∷ [], 0, 0, all, Check 1)
    ∷ (0xC0 ∷ 0x00 ∷ 0x00 ∷ 0x00 ∷ [], 0, 0, all, Commit)
    ∷ (0xC0 ∷ 0x00 ∷ 0x00 ∷ 0x02 ∷ [], 0, 0, all, Check 8)
    ∷ (0xC0 ∷ 0x00 ∷ 0x00 ∷ 0x03 ∷ [], 0, 0, all, Check 6)
    ∷ (0xC0 ∷ 0x01 ∷ 0x00 ∷ 0x00 ∷ [], 0, 0, all, Check 1)
    ∷ ([], 0, 0, all, Check 2)
    ∷ (0xC0 ∷ 0x01 ∷ [], 0, 0, all, Check 2)
    ∷ (0xFF ∷ 0x00 ∷ [], 0, 0, all, Check 1)
    ∷ [])
unfolding row_numbered
checks = refl

abbrev pub stored : Outcome → Option (List ℕ)
stored (On s) = Some (take 12 (drop 2044 s.store))
stored _ = None

-- st: the word's bytes, the highest first
st_word : stored (outcome (0xDD ∷ 0x32 ∷ 0x00 ∷ 0x04 ∷ []) (holding 0x10000000 0x01020304) all) ≡ Some (0 ∷ 0 ∷ 0 ∷ 0 ∷ 0x11 ∷ 0x22 ∷ 0x33 ∷ 0x44 ∷ 1 ∷ 2 ∷ 3 ∷ 4 ∷ [])
unfolding row_numbered
st_word = refl

abbrev printed : Outcome → Option (List ℕ)
printed (On s) = Some s.out
printed _ = None

svc_print : printed (outcome (0xC0 ∷ 0x00 ∷ 0x00 ∷ 0x01 ∷ []) (holding 0x1FE 0) all) ≡ Some (0xFE ∷ [])
unfolding row_numbered
svc_print = refl

-- a state that printed so many bytes
abbrev after_printing : ℕ → Outcome
after_printing n = row program directory (record (state (0xC0 ∷ 0x00 ∷ 0x00 ∷ 0x01 ∷ []) (holding 7 0) all) { out = replicate n 0 })

svc_print_last : printed (after_printing 4095) ≡ Some (replicate 4095 0 ++ 7 ∷ [])
unfolding row_numbered
svc_print_last = refl

svc_print_more : after_printing 4096 ≡ Check 5
unfolding row_numbered
svc_print_more = refl

-- a link is written where the row goes on, after all else
abbrev linked : Option (List ℕ × Cs × ℕ)
linked = seen (with_link (Some (3, 12)) (outcome (0xCD ∷ 0x32 ∷ 0x00 ∷ 0x00 ∷ []) (holding 0x10000000 0) all))

link_last : linked ≡ Some (64 ∷ 1 ∷ 0x10000000 ∷ 12 ∷ [], all, 4)
unfolding row_numbered
link_last = refl

link_refused : with_link (Some (3, 12)) (outcome (0xCD ∷ 0x32 ∷ 0x00 ∷ 0x00 ∷ []) (holding 0x40000000 0) all) ≡ Check 2
unfolding row_numbered
link_refused = refl

-- the touched lines: of a load, of a store, of what is refused, of private bytes
touched_lines :
    map (λ (one : List ℕ × ℕ). touched program directory (state one.0 (holding one.1 0) all))
    ((0xCD ∷ 0x32 ∷ 0x00 ∷ 0x7F ∷ [], 0x10000000) ∷ (0xDD ∷ 0x32 ∷ 0x07 ∷ 0xFC ∷ [], 0x10000000) ∷ (0xDD ∷ 0x32 ∷ 0x00 ∷ 0x00 ∷ [], 0x20000000) ∷ (0xDD ∷ 0x30 ∷ 0x00 ∷ 0x00 ∷ [], 0) ∷ [])
    ≡ record { reads = 16 ∷ []; writes = [] } ∷ record { reads = []; writes = 31 ∷ [] } ∷ no_lines ∷ no_lines ∷ []
unfolding row_numbered
touched_lines = refl

-- register 2 and the status of a state that was gone on to
abbrev seen_two : Outcome → Option (ℕ × Cs)
seen_two (On s) = Some (slice_index s.regs 2, s.cs)
seen_two _ = None

-- a number in field C
-- ais overflow, ais carry, inc wraps, dec wraps, lis most, cis less, cis equal, cis greater
short_fields : AreRight seen_two (
    (0x90 ∷ 0x21 ∷ [], 0x7FFFFFFF, 0, clear, Some (0x80000000, status true false false false true))
    ∷ (0x90 ∷ 0x2F ∷ [], 0xFFFFFFF1, 0, clear, Some (0, status false true false true false))
    ∷ (0x91 ∷ 0x22 ∷ [], 0xFFFFFFFF, 0, all, Some (1, all))
    ∷ (0x93 ∷ 0x23 ∷ [], 1, 0, clear, Some (0xFFFFFFFE, clear))
    ∷ (0xA4 ∷ 0x2F ∷ [], 7, 0, all, Some (0xF, all))
    ∷ (0x94 ∷ 0x23 ∷ [], 0xFFFFFFFF, 0, all, Some (0xFFFFFFFF, status true false false true true))
    ∷ (0x94 ∷ 0x23 ∷ [], 3, 0, clear, Some (3, status false true false false false))
    ∷ (0x94 ∷ 0x23 ∷ [], 4, 0, clear, Some (4, status false false true false false))
    ∷ [])
unfolding row_numbered
short_fields = refl

-- bit 0 is the highest; carry and overflow stay
-- clrbu first, clrbl last, setbu first, setbl first
bits : AreRight seen_two (
    (0x98 ∷ 0x20 ∷ [], 0xFFFFFFFF, 0, clear, Some (0x7FFFFFFF, status false false true false false))
    ∷ (0x99 ∷ 0x2F ∷ [], 1, 0, all, Some (0, status false true false true true))
    ∷ (0x9A ∷ 0x20 ∷ [], 0, 0, all, Some (0x80000000, status true false false true true))
    ∷ (0x9B ∷ 0x20 ∷ [], 0, 0, clear, Some (0x8000, status false false true false false))
    ∷ [])
unfolding row_numbered
bits = refl

-- shifts by a number, by a number and 16, and by the low six bits of a register
-- sari sign, sari16 most, sri zeros, sri16 none, sli lost, sli16 most, sar six bits, sar all, sar none, sr most, sr all, sl most, sl all, exts minus, exts plus
shifts : AreRight seen_two (
    (0xA0 ∷ 0x24 ∷ [], 0x80000010, 0, clear, Some (0xF8000001, status true false false false false))
    ∷ (0xA1 ∷ 0x2F ∷ [], 0x80000000, 0, clear, Some (0xFFFFFFFF, status true false false false false))
    ∷ (0xA8 ∷ 0x24 ∷ [], 0x80000010, 0, all, Some (0x8000001, status false false true true true))
    ∷ (0xA9 ∷ 0x20 ∷ [], 0x80000000, 0, clear, Some (0x8000, status false false true false false))
    ∷ (0xAA ∷ 0x21 ∷ [], 0x80000001, 0, clear, Some (2, status false false true false false))
    ∷ (0xAB ∷ 0x2F ∷ [], 3, 0, clear, Some (0x80000000, status true false false false false))
    ∷ (0xB0 ∷ 0x23 ∷ [], 0x80000000, 0x47, clear, Some (0xFF000000, status true false false false false))
    ∷ (0xB0 ∷ 0x23 ∷ [], 0x80000000, 0x20, clear, Some (0xFFFFFFFF, status true false false false false))
    ∷ (0xB0 ∷ 0x23 ∷ [], 0x7FFFFFFF, 0x3F, clear, Some (0, status false true false false false))
    ∷ (0xB8 ∷ 0x23 ∷ [], 0x80000000, 0x1F, clear, Some (1, status false false true false false))
    ∷ (0xB8 ∷ 0x23 ∷ [], 0x80000000, 0x20, clear, Some (0, status false true false false false))
    ∷ (0xBA ∷ 0x23 ∷ [], 1, 0x1F, clear, Some (0x80000000, status true false false false false))
    ∷ (0xBA ∷ 0x23 ∷ [], 1, 0x21, clear, Some (0, status false true false false false))
    ∷ (0xB1 ∷ 0x23 ∷ [], 9, 0x12348000, clear, Some (0xFFFF8000, status true false false false false))
    ∷ (0xB1 ∷ 0x23 ∷ [], 9, 0xFFFF7FFF, clear, Some (0x7FFF, status false false true false false))
    ∷ [])
unfolding row_numbered
shifts = refl

-- the carry of a subtract is that of the sum with the complement
-- sf carry, sf borrow, ae carry, ae none, se none, se carry, twoc zero, twoc least, twoc one, aei carry, sfi borrow, sfi sign
with_carry : AreRight seen_two (
    (0xB2 ∷ 0x23 ∷ [], 3, 5, clear, Some (2, status false false true true false))
    ∷ (0xB2 ∷ 0x23 ∷ [], 5, 3, all, Some (0xFFFFFFFE, status true false false false false))
    ∷ (0xF1 ∷ 0x23 ∷ [], 0xFFFFFFFF, 0, status false false false true false, Some (0, status false true false true false))
    ∷ (0xF1 ∷ 0x23 ∷ [], 0xFFFFFFFF, 0, clear, Some (0xFFFFFFFF, status true false false false false))
    ∷ (0xF2 ∷ 0x23 ∷ [], 5, 3, clear, Some (1, status false false true true false))
    ∷ (0xF2 ∷ 0x23 ∷ [], 5, 3, status false false false true false, Some (2, status false false true true false))
    ∷ (0xE4 ∷ 0x23 ∷ [], 9, 0, clear, Some (0, status false true false true false))
    ∷ (0xE4 ∷ 0x23 ∷ [], 9, 0x80000000, clear, Some (0x80000000, status true false false false true))
    ∷ (0xE4 ∷ 0x23 ∷ [], 9, 1, all, Some (0xFFFFFFFF, status true false false false false))
    ∷ (0xD1 ∷ 0x23 ∷ 0xFF ∷ 0xFF ∷ [], 9, 1, status false false false true false, Some (1, status false false true true false))
    ∷ (0xD2 ∷ 0x23 ∷ 0x00 ∷ 0x03 ∷ [], 9, 5, all, Some (0xFFFFFFFE, status true false false false false))
    ∷ (0xD2 ∷ 0x23 ∷ 0xFF ∷ 0xFF ∷ [], 9, 1, clear, Some (0xFFFFFFFE, status true false false true false))
    ∷ [])
unfolding row_numbered
with_carry = refl

-- without sign and signed; carry and overflow stay
-- cl greater, c less, c equal, cli less, ci greater
compared : AreRight seen_two (
    (0xB3 ∷ 0x23 ∷ [], 0x80000000, 1, all, Some (0x80000000, status false false true true true))
    ∷ (0xB4 ∷ 0x23 ∷ [], 0x80000000, 1, all, Some (0x80000000, status true false false true true))
    ∷ (0xB4 ∷ 0x23 ∷ [], 5, 5, clear, Some (5, status false true false false false))
    ∷ (0xD3 ∷ 0x03 ∷ 0xFF ∷ 0xFF ∷ [], 9, 1, all, Some (9, status true false false true true))
    ∷ (0xD4 ∷ 0x03 ∷ 0xFF ∷ 0xFF ∷ [], 9, 1, clear, Some (9, status false false true false false))
    ∷ [])
unfolding row_numbered
compared = refl

-- carry and overflow stay
-- abs minus, abs least, abs plus, onec zero, o both, n none, x same, x other, oiu high, oil low, xiu high, xil low, nilz low, nilo low, niuz high, niuo high
logical : AreRight seen_two (
    (0xE0 ∷ 0x23 ∷ [], 9, 0xFFFFFFFB, all, Some (5, status false false true true true))
    ∷ (0xE0 ∷ 0x23 ∷ [], 9, 0x80000000, clear, Some (0x80000000, status true false false false false))
    ∷ (0xE0 ∷ 0x23 ∷ [], 9, 7, clear, Some (7, status false false true false false))
    ∷ (0xF4 ∷ 0x23 ∷ [], 9, 0, clear, Some (0xFFFFFFFF, status true false false false false))
    ∷ (0xE3 ∷ 0x23 ∷ [], 0xF, 0xF0, all, Some (0xFF, status false false true true true))
    ∷ (0xE5 ∷ 0x23 ∷ [], 0xF, 0xF0, clear, Some (0, status false true false false false))
    ∷ (0xE7 ∷ 0x23 ∷ [], 0xFF, 0xFF, clear, Some (0, status false true false false false))
    ∷ (0xE7 ∷ 0x23 ∷ [], 0x80000000, 1, clear, Some (0x80000001, status true false false false false))
    ∷ (0xC3 ∷ 0x23 ∷ 0x80 ∷ 0x00 ∷ [], 9, 1, clear, Some (0x80000001, status true false false false false))
    ∷ (0xC4 ∷ 0x23 ∷ 0x80 ∷ 0x00 ∷ [], 9, 0x10000, all, Some (0x18000, status false false true true true))
    ∷ (0xD7 ∷ 0x23 ∷ 0x80 ∷ 0x00 ∷ [], 9, 0x80000000, clear, Some (0, status false true false false false))
    ∷ (0xC7 ∷ 0x23 ∷ 0xFF ∷ 0xFF ∷ [], 9, 0xFFFF, clear, Some (0, status false true false false false))
    ∷ (0xC5 ∷ 0x23 ∷ 0x00 ∷ 0xFF ∷ [], 9, 0xFFFF1234, clear, Some (0x34, status false false true false false))
    ∷ (0xC6 ∷ 0x23 ∷ 0x00 ∷ 0xFF ∷ [], 9, 0xFFFF1234, clear, Some (0xFFFF0034, status true false false false false))
    ∷ (0xD5 ∷ 0x23 ∷ 0x00 ∷ 0xFF ∷ [], 9, 0x12345678, clear, Some (0x340000, status false false true false false))
    ∷ (0xD6 ∷ 0x23 ∷ 0x00 ∷ 0x00 ∷ [], 9, 0x12345678, clear, Some (0x5678, status false false true false false))
    ∷ [])
unfolding row_numbered
logical = refl

-- taken and not taken
-- tgte equal, tgte unsigned, tlt less, ti less, ti sign, ti equal, ti greater
trapping : AreRight as_is (
    (0xBD ∷ 0x23 ∷ [], 3, 3, all, Check 3)
    ∷ (0xBD ∷ 0x23 ∷ [], 0x80000000, 1, all, Check 3)
    ∷ (0xBE ∷ 0x23 ∷ [], 2, 3, all, Check 3)
    ∷ (0xCC ∷ 0x43 ∷ 0x00 ∷ 0x02 ∷ [], 0, 1, all, Check 3)
    ∷ (0xCC ∷ 0x43 ∷ 0x00 ∷ 0x01 ∷ [], 0, 0xFFFFFFFF, all, Check 3)
    ∷ (0xCC ∷ 0x23 ∷ 0x00 ∷ 0x02 ∷ [], 0, 2, all, Check 3)
    ∷ (0xCC ∷ 0x13 ∷ 0x00 ∷ 0x02 ∷ [], 0, 3, all, Check 3)
    ∷ [])
unfolding row_numbered
trapping = refl

-- taken and not taken
-- tgte not, tlt not, ti not less, ti no mask
not_trapping : AreRight seen_two (
    (0xBD ∷ 0x23 ∷ [], 2, 3, all, Some (2, all))
    ∷ (0xBE ∷ 0x23 ∷ [], 3, 3, all, Some (3, all))
    ∷ (0xCC ∷ 0x33 ∷ 0x00 ∷ 0x02 ∷ [], 9, 1, all, Some (9, all))
    ∷ (0xCC ∷ 0x03 ∷ 0x00 ∷ 0x02 ∷ [], 9, 2, clear, Some (9, clear))
    ∷ [])
unfolding row_numbered
not_trapping = refl

-- registers 2 and 3 of a state that was gone on to
abbrev loaded : Outcome → Option (List ℕ)
loaded (On s) = Some (take 2 (drop 2 s.regs))
loaded _ = None

-- an address in register 2, a word in register 3, and 7 and 9 in the last two
abbrev words_at : ℕ → ℕ → List ℕ
words_at x y = 64 ∷ 1 ∷ x ∷ y ∷ replicate 10 0 ++ 7 ∷ 9 ∷ []

-- zeros or the sign; the low bits of an address count as zero
-- lcs zeros, lhas sign, ls word, ls no base, lc zeros, lh even, lha sign, lha plus, lhs even, lhs register 0, lm base among, lm last
loads : AreRight loaded (
    (0x44 ∷ 0x23 ∷ [], 9, 0x10000000, all, Some (0x80 ∷ 0x10000000 ∷ []))
    ∷ (0x52 ∷ 0x23 ∷ [], 9, 0x10000000, all, Some (0xFFFF8055 ∷ 0x10000000 ∷ []))
    ∷ (0x71 ∷ 0x23 ∷ [], 9, 0x10000003, all, Some (0x80556677 ∷ 0x10000003 ∷ []))
    ∷ (0x71 ∷ 0x20 ∷ 0x00 ∷ 0x00 ∷ 0x01 ∷ 0x02 ∷ 0x03 ∷ 0x04 ∷ [], 9, 0x10000000, all, Some (0x1020304 ∷ 0x10000000 ∷ []))
    ∷ (0xCE ∷ 0x23 ∷ 0x00 ∷ 0x04 ∷ [], 9, 0x10000000, all, Some (0x80 ∷ 0x10000000 ∷ []))
    ∷ (0xDA ∷ 0x23 ∷ 0x00 ∷ 0x05 ∷ [], 9, 0x10000000, all, Some (0x8055 ∷ 0x10000000 ∷ []))
    ∷ (0xCA ∷ 0x23 ∷ 0x00 ∷ 0x04 ∷ [], 9, 0x10000000, all, Some (0xFFFF8055 ∷ 0x10000000 ∷ []))
    ∷ (0xCA ∷ 0x23 ∷ 0x00 ∷ 0x00 ∷ [], 9, 0x10000000, all, Some (0x1122 ∷ 0x10000000 ∷ []))
    ∷ (0xEB ∷ 0x23 ∷ [], 9, 0x10000005, all, Some (0x8055 ∷ 0x10000005 ∷ []))
    ∷ (0xEB ∷ 0x20 ∷ replicate 62 0 ++ 0xAB ∷ 0xCD ∷ [], 9, 0x10000000, all, Some (0xABCD ∷ 0x10000000 ∷ []))
    ∷ (0xC9 ∷ 0x23 ∷ 0x00 ∷ 0x00 ∷ [], 9, 0x10000000, all, Some (0x11223344 ∷ 0x80556677 ∷ []))
    ∷ (0xC9 ∷ 0x23 ∷ 0x00 ∷ 0x00 ∷ [], 9, 0x100007C8, all, Some (0 ∷ 0 ∷ []))
    ∷ [])
unfolding row_numbered
loads = refl

lm_past : outcome (0xC9 ∷ 0x23 ∷ 0x00 ∷ 0x00 ∷ []) (holding 9 0x100007CC) all ≡ Check 2
unfolding row_numbered
lm_past = refl

-- the lowest bytes, or whole registers
-- stcs byte, sths half, sts word, stc byte, sth even
stores : AreRight stored (
    (0x15 ∷ 0x32 ∷ [], 0x10000000, 0xAABBCCDD, all, Some (0 ∷ 0 ∷ 0 ∷ 0 ∷ 0x11 ∷ 0x22 ∷ 0x33 ∷ 0x44 ∷ 0x80 ∷ 0xDD ∷ 0x66 ∷ 0x77 ∷ []))
    ∷ (0x23 ∷ 0x32 ∷ [], 0x10000000, 0xAABBCCDD, all, Some (0 ∷ 0 ∷ 0 ∷ 0 ∷ 0x11 ∷ 0x22 ∷ 0x33 ∷ 0x44 ∷ 0x80 ∷ 0x55 ∷ 0xCC ∷ 0xDD ∷ []))
    ∷ (0x31 ∷ 0x32 ∷ [], 0x10000000, 0xAABBCCDD, all, Some (0 ∷ 0 ∷ 0 ∷ 0 ∷ 0x11 ∷ 0x22 ∷ 0x33 ∷ 0x44 ∷ 0xAA ∷ 0xBB ∷ 0xCC ∷ 0xDD ∷ []))
    ∷ (0xDE ∷ 0x32 ∷ 0x00 ∷ 0x01 ∷ [], 0x10000000, 0xAABBCCDD, all, Some (0 ∷ 0 ∷ 0 ∷ 0 ∷ 0x11 ∷ 0xDD ∷ 0x33 ∷ 0x44 ∷ 0x80 ∷ 0x55 ∷ 0x66 ∷ 0x77 ∷ []))
    ∷ (0xDC ∷ 0x32 ∷ 0x00 ∷ 0x03 ∷ [], 0x10000000, 0xAABBCCDD, all, Some (0 ∷ 0 ∷ 0 ∷ 0 ∷ 0x11 ∷ 0x22 ∷ 0xCC ∷ 0xDD ∷ 0x80 ∷ 0x55 ∷ 0x66 ∷ 0x77 ∷ []))
    ∷ [])
unfolding row_numbered
stores = refl

stm_two : stored (outcome (0xD9 ∷ 0xE2 ∷ 0x00 ∷ 0x00 ∷ []) (words_at 0x10000000 5) all) ≡ Some (0 ∷ 0 ∷ 0 ∷ 0 ∷ 0 ∷ 0 ∷ 0 ∷ 7 ∷ 0 ∷ 0 ∷ 0 ∷ 9 ∷ [])
unfolding row_numbered
stm_two = refl

-- more
-- stm read, stm past
refused_more : AreRight as_is (
    (0xD9 ∷ 0xE2 ∷ 0x00 ∷ 0x00 ∷ [], 0x20000000, 5, all, Check 7)
    ∷ (0xD9 ∷ 0xE2 ∷ 0x00 ∷ 0x00 ∷ [], 0x200007FC, 5, all, Check 2)
    ∷ [])
unfolding row_numbered
refused_more = refl

-- registers 2, 3 and 15, status and address of a state that was gone on to
abbrev gone : Outcome → Option (List ℕ × Cs × ℕ)
gone (On s) = Some (slice_index s.regs 2 ∷ slice_index s.regs 3 ∷ slice_index s.regs 15 ∷ [], s.cs, s.iar)
gone _ = None

-- taken and not taken; the link is the address after the branch
-- bnb taken, bnb not, bb taken, bb not, bb back, bali link, bala even, bnbr even, bnbr not, bbr taken, bbr always not, balr link, balr register 0
branches : AreRight gone (
    (0x88 ∷ 0x20 ∷ 0x00 ∷ 0x04 ∷ [], 5, 6, clear, Some (5 ∷ 6 ∷ 0 ∷ [], clear, 8))
    ∷ (0x88 ∷ 0x20 ∷ 0x00 ∷ 0x04 ∷ [], 5, 6, all, Some (5 ∷ 6 ∷ 0 ∷ [], all, 4))
    ∷ (0x8E ∷ 0x20 ∷ 0x00 ∷ 0x04 ∷ [], 5, 6, status false true false false false, Some (5 ∷ 6 ∷ 0 ∷ [], status false true false false false, 8))
    ∷ (0x8E ∷ 0x20 ∷ 0x00 ∷ 0x04 ∷ [], 5, 6, status true false true false false, Some (5 ∷ 6 ∷ 0 ∷ [], status true false true false false, 4))
    ∷ (0x8E ∷ 0x1F ∷ 0xFF ∷ 0xFF ∷ [], 5, 6, status true false false false false, Some (5 ∷ 6 ∷ 0 ∷ [], status true false false false false, 0xFFFFFFFE))
    ∷ (0x8C ∷ 0x30 ∷ 0x00 ∷ 0x08 ∷ [], 5, 6, all, Some (5 ∷ 4 ∷ 0 ∷ [], all, 0x10))
    ∷ (0x8A ∷ 0x00 ∷ 0x00 ∷ 0x21 ∷ [], 5, 6, clear, Some (5 ∷ 6 ∷ 4 ∷ [], clear, 0x20))
    ∷ (0xE8 ∷ 0x23 ∷ [], 5, 0x101, clear, Some (5 ∷ 0x101 ∷ 0 ∷ [], clear, 0x100))
    ∷ (0xE8 ∷ 0x23 ∷ [], 5, 0x101, status false true false false false, Some (5 ∷ 0x101 ∷ 0 ∷ [], status false true false false false, 2))
    ∷ (0xEE ∷ 0x23 ∷ [], 5, 0x101, status false true false false false, Some (5 ∷ 0x101 ∷ 0 ∷ [], status false true false false false, 0x100))
    ∷ (0xEE ∷ 0x03 ∷ [], 5, 0x101, all, Some (5 ∷ 0x101 ∷ 0 ∷ [], all, 2))
    ∷ (0xEC ∷ 0x23 ∷ [], 5, 0x101, all, Some (2 ∷ 0x101 ∷ 0 ∷ [], all, 0x100))
    ∷ (0xEC ∷ 0x20 ∷ [], 5, 6, all, Some (2 ∷ 6 ∷ 0 ∷ [], all, 0x40))
    ∷ [])
unfolding row_numbered
branches = refl

-- target and condition first, then the subject, then the link with the address after it
-- bbx taken, bbx not, bnbx taken, bnbx not, balix link last, balix link of four, balax link, balrx target first, bnbrx always, bbrx taken, bbrx not, bbx subject loads
with_subjects : AreRight gone (
    (0x8F ∷ 0x20 ∷ 0x00 ∷ 0x06 ∷ 0x90 ∷ 0x21 ∷ [], 0, 6, status false true false false false, Some (1 ∷ 6 ∷ 0 ∷ [], status false false true false false, 0xC))
    ∷ (0x8F ∷ 0x20 ∷ 0x00 ∷ 0x06 ∷ 0x90 ∷ 0x21 ∷ [], 0, 6, status true false false false false, Some (1 ∷ 6 ∷ 0 ∷ [], status false false true false false, 6))
    ∷ (0x89 ∷ 0x20 ∷ 0x00 ∷ 0x06 ∷ 0x90 ∷ 0x21 ∷ [], 0, 6, clear, Some (1 ∷ 6 ∷ 0 ∷ [], status false false true false false, 0xC))
    ∷ (0x89 ∷ 0x20 ∷ 0x00 ∷ 0x06 ∷ 0x90 ∷ 0x21 ∷ [], 0, 6, status false true false false false, Some (1 ∷ 6 ∷ 0 ∷ [], status false false true false false, 6))
    ∷ (0x8D ∷ 0x20 ∷ 0x00 ∷ 0x06 ∷ 0x90 ∷ 0x21 ∷ [], 0, 6, clear, Some (6 ∷ 6 ∷ 0 ∷ [], status false false true false false, 0xC))
    ∷ (0x8D ∷ 0x30 ∷ 0x00 ∷ 0x06 ∷ 0xC8 ∷ 0x23 ∷ 0x00 ∷ 0x01 ∷ [], 0, 6, all, Some (7 ∷ 8 ∷ 0 ∷ [], all, 0xC))
    ∷ (0x8B ∷ 0x00 ∷ 0x00 ∷ 0x20 ∷ 0x90 ∷ 0x21 ∷ [], 0, 6, clear, Some (1 ∷ 6 ∷ 6 ∷ [], status false false true false false, 0x20))
    ∷ (0xED ∷ 0x32 ∷ 0x90 ∷ 0x21 ∷ [], 0x100, 6, clear, Some (0x101 ∷ 4 ∷ 0 ∷ [], status false false true false false, 0x100))
    ∷ (0xE9 ∷ 0x03 ∷ 0x90 ∷ 0x21 ∷ [], 0, 0x40, all, Some (1 ∷ 0x40 ∷ 0 ∷ [], status false false true false false, 0x40))
    ∷ (0xEF ∷ 0x23 ∷ 0x90 ∷ 0x21 ∷ [], 0, 0x40, status false true false false false, Some (1 ∷ 0x40 ∷ 0 ∷ [], status false false true false false, 0x40))
    ∷ (0xEF ∷ 0x23 ∷ 0x90 ∷ 0x21 ∷ [], 0, 0x40, clear, Some (1 ∷ 0x40 ∷ 0 ∷ [], status false false true false false, 4))
    ∷ (0x8F ∷ 0x20 ∷ 0x00 ∷ 0x06 ∷ 0xCD ∷ 0x23 ∷ 0x00 ∷ 0x04 ∷ [], 0, 0x10000000, status false true false false false, Some (0x80556677 ∷ 0x10000000 ∷ 0 ∷ [], status false true false false false, 0xC))
    ∷ [])
unfolding row_numbered
with_subjects = refl

-- the subject is fetched, decoded and looked at by kind, and then checked like any row
-- subject outside, subject half, subject no row, subject jumps, subject branches, subject traps not, subject traps, subject traps by mask, subject calls, subject refused, subject stores read
subjects : AreRight as_is (
    (0x8F ∷ 0x20 ∷ 0x00 ∷ 0x06 ∷ [], 0, 0, all, Check 2)
    ∷ (0x8F ∷ 0x20 ∷ 0x00 ∷ 0x06 ∷ 0xC1 ∷ 0x23 ∷ [], 0, 0, all, Check 2)
    ∷ (0x8F ∷ 0x20 ∷ 0x00 ∷ 0x06 ∷ 0xFF ∷ 0x00 ∷ [], 0, 0, all, Check 1)
    ∷ (0x8F ∷ 0x20 ∷ 0x00 ∷ 0x06 ∷ 0x00 ∷ 0x00 ∷ [], 0, 0, all, Check 4)
    ∷ (0x8F ∷ 0x20 ∷ 0x00 ∷ 0x06 ∷ 0xEC ∷ 0x23 ∷ [], 0, 0, all, Check 4)
    ∷ (0x8F ∷ 0x20 ∷ 0x00 ∷ 0x06 ∷ 0xBE ∷ 0x23 ∷ [], 3, 3, all, Check 4)
    ∷ (0x8F ∷ 0x20 ∷ 0x00 ∷ 0x06 ∷ 0xBD ∷ 0x23 ∷ [], 3, 3, all, Check 4)
    ∷ (0x8F ∷ 0x20 ∷ 0x00 ∷ 0x06 ∷ 0xCC ∷ 0x03 ∷ 0x00 ∷ 0x00 ∷ [], 3, 3, all, Check 4)
    ∷ (0x8F ∷ 0x20 ∷ 0x00 ∷ 0x06 ∷ 0xC0 ∷ 0x00 ∷ 0x00 ∷ 0x00 ∷ [], 3, 3, all, Check 4)
    ∷ (0x8D ∷ 0x20 ∷ 0x00 ∷ 0x06 ∷ 0xCD ∷ 0x23 ∷ 0x00 ∷ 0x00 ∷ [], 0, 0x40000000, all, Check 2)
    ∷ (0x8D ∷ 0x20 ∷ 0x00 ∷ 0x06 ∷ 0xDD ∷ 0x23 ∷ 0x00 ∷ 0x00 ∷ [], 0, 0x20000000, all, Check 7)
    ∷ [])
unfolding row_numbered
subjects = refl

-- The definitions compute on a worked program.

abbrev code : List ℕ
code = flat_map (big_bytes 4) (0xD8601000 ∷ 0xCD360000 ∷ 0xC1330005 ∷ 0xDD360000 ∷ 0xC0000000 ∷ [])

abbrev add_five : Program
add_five =
    record {
      image = code;
      entry = 0;
      windows = Some (record { segment = 1; write = true }) ∷ replicate 14 None;
      image_fits = lit≤ tt;
      entry_fits = lit< tt;
      entry_is_even = refl;
    }

abbrev store : FlatStore
store = record { directory = record { page = Two; segments = (1, 4) ∷ (2, 2) ∷ []; fine = 0 }; bytes = replicate 12288 0 }

abbrev activation : Activation
activation = record { program = add_five; args = replicate 4 0 }

fetched : option_map (λ s. halfword s.private s.iar) (after add_five (replicate 4 0) store 0) ≡ Some (Some 0xD860)
unfolding row_numbered
fetched = refl

one_add : option_map (λ s. take 4 s.bytes) (serial (activation ∷ []) ((1, 5) ∷ []) store) ≡ Some (0 ∷ 0 ∷ 0 ∷ 5 ∷ [])
unfolding row_numbered
one_add = refl

two_adds : option_map (λ s. take 4 s.bytes) (serial (activation ∷ activation ∷ []) ((2, 5) ∷ (1, 5) ∷ []) store) ≡ Some (0 ∷ 0 ∷ 0 ∷ 10 ∷ [])
unfolding row_numbered
two_adds = refl
