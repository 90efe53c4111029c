-- Bits with a sign and without.
use Rattle.romp_table.proofs.Common.{◌-ℤ◌, nat_lt, nat_tests, signed, IsSigned, field_bits, ◌≡◌, ℕ, ℤ, pos, negsuc, suc, ◌-◌, ◌^◌, ◌<◌, Bool, true, false, cond, refl, ap, ◌∙◌, arith}
use Rattle.std.proofs.lemmas.Int.{ints}

below_zero : (a b : ℕ) → a < b → pos a -ℤ pos b ≡ negsuc (b - suc a)
below_zero a b h = omega (arith, ints)

by_test : (full bits : ℕ) (test : Bool) (f : ℤ → ℕ) → bits < full → f (pos bits) ≡ bits → f (negsuc (full - suc bits)) ≡ bits → f (cond test (pos bits) (pos bits -ℤ pos full)) ≡ bits
by_test full bits true f small low high = low
by_test full bits false f small low high = ap f (below_zero bits full small) ∙ high

pub bits-signed_8 : (bits : ℕ) → bits < 2 ^ 8 → field_bits 8 (signed 8 bits) ≡ bits
bits-signed_8 bits small = by_test (2 ^ 8) bits (nat_lt bits (2 ^ 7)) (field_bits 8) small refl (omega arith)

pub bits-signed_20 : (bits : ℕ) → bits < 2 ^ 20 → field_bits 20 (signed 20 bits) ≡ bits
bits-signed_20 bits small = by_test (2 ^ 20) bits (nat_lt bits (2 ^ 19)) (field_bits 20) small refl (omega arith)

pub bits_small_8 : (z : ℤ) → IsSigned 8 z → field_bits 8 z < 2 ^ 8
bits_small_8 (pos m) h = omega (arith, ints)
bits_small_8 (negsuc m) h = omega (arith, ints)

pub bits_small_20 : (z : ℤ) → IsSigned 20 z → field_bits 20 z < 2 ^ 20
bits_small_20 (pos m) h = omega (arith, ints)
bits_small_20 (negsuc m) h = omega (arith, ints)

pub signed-bits_8 : (z : ℤ) → IsSigned 8 z → signed 8 (field_bits 8 z) ≡ z
signed-bits_8 (pos m) h = grind (arith, nat_tests, ints)
signed-bits_8 (negsuc m) h = grind (arith, nat_tests, ints)

pub signed-bits_20 : (z : ℤ) → IsSigned 20 z → signed 20 (field_bits 20 z) ≡ z
signed-bits_20 (pos m) h = grind (arith, nat_tests, ints)
signed-bits_20 (negsuc m) h = grind (arith, nat_tests, ints)
