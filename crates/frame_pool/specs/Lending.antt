-- What the bytes of frames end as, where a part of them is lent.
use Rattle.std.specs.Prelude.{ℕ, List, length, take}
use Rattle.frame_pool.specs.Below.{Array, Fml, Lends, MutBor, overlaid, u8}
use Rattle.frame_pool.specs.contracts.frame_bytes.FrameBytes.{the_row}

-- the bytes with a part written over, and no more of them than before
abbrev pub with_part : List ℕ → ℕ → List ℕ → List ℕ
with_part bytes at part = take (length bytes) (overlaid bytes at part)

-- once the borrow ends, the part is what the reference shows last
abbrev pub LendsPart : MutBor (List ℕ) → ℕ → MutBor (List ℕ) → Fml
LendsPart bytes at part = Lends the_row (Array u8 0) bytes part (with_part bytes.now at)
