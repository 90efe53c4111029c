use Rattle.asm_parse.proofs.Common.{◌≡◌, ◌<◌, ◌^◌, take, AllDigits, digits_value}
use Rattle.asm_parse.proofs.numbers.value_of.Given as goal

abbrev pub invariant-loop-byte : goal.invariant-loop-byte
invariant-loop-byte l = AllDigits l.radix (take l.byte-index l.digits) × (l.number ≡ digits_value l.radix (take l.byte-index l.digits)) × (l.number < 2 ^ 32)
