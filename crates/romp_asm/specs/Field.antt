-- Values that the fields of an instruction hold.
use Rattle.std.specs.Prelude.{ℕ, ℤ, pos, negsuc, suc, neg_ℤ, ◌*◌, ◌/◌, ◌%◌, nat_le, ◌==◌, ◌&&◌, if◌then◌else◌, Bool, Option, Some, None, option_and_then, ◌-ℤ◌}
use Rattle.romp_table.specs.Encode.{field_bits}
use Rattle.romp_asm.specs.Value.{is_between}

-- a number from 0 to the greatest
abbrev pub at_most : ℕ → ℤ → Option ℕ
at_most most (pos n) = if nat_le n most then Some n else None
at_most most (negsuc n) = None

-- a number that isn't above the greatest
abbrev pub number_field : ℕ → ℕ → Option ℕ
number_field most n = if nat_le n most then Some n else None

-- sixteen bits of a number from -32,768 to 32,767
abbrev pub signed_field : ℤ → Option ℕ
signed_field value = if is_between 32768 32767 value then Some (field_bits 16 value) else None

-- an even number
abbrev pub is_even : ℤ → Bool
is_even (pos n) = n % 2 == 0
is_even (negsuc n) = suc n % 2 == 0

-- the half of an even number
abbrev pub half_of : ℤ → ℤ
half_of (pos n) = pos (n / 2)
half_of (negsuc n) = neg_ℤ (pos (suc n / 2))

-- half the distance from a branch to its target: the target is even, the distance even and from -below to above
abbrev pub relative : ℕ → ℕ → ℕ → ℤ → Option ℤ
relative below above at target =
    if is_even target && is_even (target -ℤ pos at) && is_between below above (target -ℤ pos at)
    then Some (half_of (target -ℤ pos at)) else None

-- an even address that isn't above the greatest
abbrev pub even_at_most : ℕ → ℤ → Option ℕ
even_at_most most value = if is_even value then at_most most value else None

-- a multiple of the scale, as its number of scales
abbrev pub scales_in : ℕ → ℕ → Option ℕ
scales_in scale n = if n % scale == 0 then Some (n / scale) else None

-- a short displacement: a multiple of the scale, from 0 to 15 times it
abbrev pub short_field : ℕ → ℤ → Option ℕ
short_field scale value = option_and_then (scales_in scale) (at_most (15 * scale) value)
