-- What a disk was made as.
use Rattle.std.specs.Prelude.{ℕ, List, Option}

-- The bytes that it held first and, where it is to stop, the number of the write within which it does, and what it then leaves at the front of that. No call
-- changes it, so a disk that comes back from calls is the one that was lent to them.
pub record Origin : Type 0 where
  pub first : List ℕ
  pub stop : Option (ℕ × List ℕ)
