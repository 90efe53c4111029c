-- How many of the private bytes of each seat were used: all behind them are zeros.
use Rattle.std.specs.Prelude.{◌≡◌, ℕ, ◌+◌, ◌*◌, ◌<◌, ◌≤◌, List, length, slice_index}

-- the private bytes of each of sixteen seats from so many on are zeros
pub record AreClear (used : List ℕ) (bytes : List ℕ) : Type 0 where
  pub sixteen : length used ≡ 16
  pub few : (seat : ℕ) → slice_index used seat ≤ 16384
  pub zeros : (seat offset : ℕ) → seat < 16 → slice_index used seat ≤ offset → offset < 16384 → slice_index bytes (seat * 16384 + offset) ≡ 0

-- more bytes were used, and those of one seat up to an offset
pub record AreUsed (old new : List ℕ) (seat end : ℕ) : Type 0 where
  pub sixteen : length new ≡ 16
  pub few : (other : ℕ) → slice_index new other ≤ 16384
  pub more : (other : ℕ) → slice_index old other ≤ slice_index new other
  pub upto : end ≤ slice_index new seat
