-- What a file, or an input, gave when it was read.
use Rattle.std.specs.Prelude.{◌≡◌, ◌≤◌, ℕ, List, [], ◌∷◌, Bool, false, Option, IfSome, length, take}
use Rattle.real_files.specs.Deeds.{Deed}
use Rattle.real_files.specs.Shown.{bytes_put}

-- the bytes of the one note of it
abbrev pub found_by : List Deed → List ℕ
found_by [] = []
found_by (deed ∷ deeds) = bytes_put deed

-- These bytes were read of an input, so many at most; where it tells what it has, they are all of that, as far as it is wanted, or, where a read
-- failed, a first part of it.
pub record IsReadFrom (most : ℕ) (known : Option (List ℕ)) (bytes : List ℕ) (is_cut : Bool) : Type 0 where
  pub few : length bytes ≤ most
  pub first : IfSome known (λ text. bytes ≡ take (length bytes) text)
  pub whole : is_cut ≡ false → IfSome known (λ text. bytes ≡ take most text)
