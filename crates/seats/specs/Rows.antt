-- Waits as rows of bits.
use Rattle.std.specs.Prelude.{◌≡◌, ℕ, ◌<◌, ◌==◌, ◌&&◌, nat_lt, Bool, List, length, slice_index_or}
use Rattle.std.specs.List.{list_any, range_with_len}
pub use Rattle.lines.specs.LineBits.{is_on}
use Rattle.lines.specs.Waits.{leads}

-- the sixteen places
abbrev pub places : List ℕ
places = range_with_len 0 16

-- whether one place waits for another: the other's bit is on in its row
abbrev pub waits_in : List ℕ → ℕ → ℕ → Bool
waits_in rows from to = is_on (slice_index_or rows from 0) to

-- the places of these rows, one for each
abbrev pub row_places : List ℕ → List ℕ
row_places rows = range_with_len 0 (length rows)

-- the bits that are on are those of the places of these that pass a test
abbrev pub AreOn : {T : Type 0} → (bits : ℕ) → List T → (ℕ → Bool) → Type 0
AreOn bits those passes = (place : ℕ) → place < 16 → is_on bits place ≡ (nat_lt place (length those) && passes place)

-- whether waits lead from a place to another by these rows, and whether it waits for one whose bit is on
abbrev pub row_leads : List ℕ → (to from : ℕ) → Bool
row_leads rows to from = leads (waits_in rows) (row_places rows) (length rows) from to

abbrev pub awaits_one : List ℕ → (goals from : ℕ) → Bool
awaits_one rows goals from = list_any (λ next. waits_in rows from next && is_on goals next) places
