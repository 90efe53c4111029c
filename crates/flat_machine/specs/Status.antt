-- The condition status, and what a `Cs` shows of it.
use Rattle.std.specs.Prelude.{ℕ, ◌^◌, nat_le, ◌&&◌, not, Bool, true, false}

-- less, equal and greater of the last result, the carry and the overflow
pub record Status : Type 0 where
  pub lt : Bool
  pub eq : Bool
  pub gt : Bool
  pub c0 : Bool
  pub ov : Bool

-- whether the top bit of a word is on
abbrev pub is_negative : ℕ → Bool
is_negative x = nat_le (2 ^ 31) x

-- whether two words of one sign have a sum of the other
abbrev pub overflows : (x y sum : ℕ) → Bool
overflows x y sum = is_same (is_negative x) (is_negative y) && not (is_same (is_negative x) (is_negative sum))
  where
    is_same : Bool → Bool → Bool
    is_same true b = b
    is_same false b = not b
