-- Where lines are kept.
use Rattle.std.specs.Prelude.{ℕ, ◌+◌, ◌/◌, ◌%◌, ◌^◌}

-- the place of the line at a block of 128 addresses: at one offset under sixteen segment registers they are apart
abbrev pub block_place : ℕ → ℕ
block_place block = (block + block / 2 ^ 21) % 64
