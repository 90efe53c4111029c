-- The number that a run of letters and digits writes.
use Rattle.std.specs.Prelude.{ℕ, ◌^◌, nat_eq, nat_lt, ◌&&◌, if◌then◌else◌, List, length, drop, codes, Option, Some, None}
use Rattle.std.specs.Char.{is_digit}
use Rattle.std.specs.List.{list_all, starts_with}
use Rattle.std.specs.Str.Parse.{digits_value}

-- the number that digits of this radix write, if there are some and it has at most 32 bits
abbrev pub radix_number : ℕ → List ℕ → Option ℕ
radix_number radix digits =
    if nat_lt 0 (length digits) && list_all (λ byte. is_digit byte radix) digits && nat_lt (digits_value radix digits) (2 ^ 32)
    then Some (digits_value radix digits) else None

-- the number of a run: `0x` and hexadecimal digits, or decimal digits
abbrev pub literal_number : List ℕ → Option ℕ
literal_number run = if starts_with nat_eq run (codes "0x") then radix_number 16 (drop 2 run) else radix_number 10 run
