-- Lines that are laid over, byte by byte.
use Rattle.desk_law.proofs.Common.{◌≡◌, refl, ℕ, ◌+◌, ◌*◌, ◌/◌, ◌<◌, if◌then◌else◌, true, false, List, length, slice_index, slice_range, arith, length-take, length-drop, same_number_lists, line_bytes, FlatStore, has, part, in_line, AreLinesLaid, nat_tests}
use Rattle.std.proofs.lemmas.Nat.{div-mul-add}

-- a byte of a line that was laid, and of one that wasn't
module _ (store : FlatStore) (lines from old new : List ℕ) (some : 0 < line_bytes store.directory.page) (is : AreLinesLaid store lines from old new) where
  pub place-laid : (place : ℕ) → has lines (place / line_bytes store.directory.page) ≡ true → slice_index new place ≡ slice_index from place
  place-laid place inside = in_line (line_bytes store.directory.page) (place / line_bytes store.directory.page) place new from refl some (is.laid (place / line_bytes store.directory.page) inside)

  pub place-kept : (place : ℕ) → has lines (place / line_bytes store.directory.page) ≡ false → slice_index new place ≡ slice_index old place
  place-kept place out = in_line (line_bytes store.directory.page) (place / line_bytes store.directory.page) place new old refl some (is.kept (place / line_bytes store.directory.page) out)

-- lists that are equal on each byte of a line have the line equal
line-from : (lb line : ℕ) (xs ys : List ℕ) → 0 < lb → length xs ≡ length ys → ((k : ℕ) → k < lb → line * lb + k < length xs → slice_index xs (line * lb + k) ≡ slice_index ys (line * lb + k))
    → slice_range xs (line * lb) (line * lb + lb) ≡ slice_range ys (line * lb) (line * lb + lb)
line-from lb line xs ys some long same = grind (arith, nat_tests, same_number_lists, length-take, length-drop, part)

line-of : (lb line k : ℕ) → k < lb → (line * lb + k) / lb ≡ line
line-of lb line k short = div-mul-add line lb k short

-- Bytes that were laid place by place are laid line by line.
pub laid-places :
    (store : FlatStore) (lines from old new : List ℕ) → 0 < line_bytes store.directory.page → length new ≡ length old → length from ≡ length old
    → ((place : ℕ) → place < length old → slice_index new place ≡ (if has lines (place / line_bytes store.directory.page) then slice_index from place else slice_index old place))
    → AreLinesLaid store lines from old new
laid-places store lines from old new some long from_long each = grind (arith, nat_tests, line-from, line-of)
