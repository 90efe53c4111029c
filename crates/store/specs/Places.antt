-- The newest places of lines, by pages of sixteen lines.
use Rattle.std.specs.Prelude.{◌≡◌, ◌≢◌, ℕ, ◌+◌, ◌/◌, ◌^◌, ◌≤◌, ◌<◌, List, length, Option, None, slice_index_or, true, false}
use Rattle.store.specs.declared.places.Places.TheInside.{Inside}

-- no line from one on up to another has a place
abbrev pub HaveNone : List (Option ℕ) → (from to : ℕ) → Type 0
HaveNone places from to = (line : ℕ) → from ≤ line → line < to → slice_index_or places line None ≡ None

-- no line of a page has a place, and those of the others stay
pub record IsClearedAt (page : ℕ) (old new : List (Option ℕ)) : Type 0 where
  pub none : (line : ℕ) → line / 16 ≡ page → slice_index_or new line None ≡ None
  pub others : (line : ℕ) → line / 16 ≢ page → slice_index_or new line None ≡ slice_index_or old line None

-- a mark for each page, and where there is none, no line of the page has a place
pub record AreMarked (places : Inside) : Type 0 where
  pub few : length places.items < 2 ^ 32
  pub pages : length places.marked ≡ length places.items / 16 + 1
  pub unmarked : (line : ℕ) → slice_index_or places.marked (line / 16) true ≡ false → slice_index_or places.items line None ≡ None
