-- The lines that are known, by their blocks of 128 addresses.
use Rattle.std.specs.Prelude.{◌≡◌, ℕ, ◌+◌, ◌==◌, ◌&&◌, not, if◌then◌else◌, Bool, List, slice_index, Option, Some, None}
use Rattle.page_table.specs.LinePlaces.{block_place}
use Rattle.page_table.specs.declared.open_lines.OpenLines.{OpenLines}

-- the spot at a block, if its place has the block's number and this time for a tag
abbrev pub line_in : (time : ℕ) → (tags spots : List ℕ) → (block : ℕ) → Option ℕ
line_in time tags spots block = if slice_index tags (block_place block) == time + block then Some (slice_index spots (block_place block)) else None

-- the spot of the line that is known at a block, to be stored to or to be loaded
unfoldable pub known : OpenLines → (store : Bool) → (block : ℕ) → Option ℕ
known lines store block = line_in lines.time (if store then lines.stores else lines.loads) lines.spots block

-- no line is known
abbrev pub KnowsNoLine : OpenLines → Type 0
KnowsNoLine lines = (store : Bool) (block : ℕ) → known lines store block ≡ None

-- what is known at a block after a line was kept at one: that line, to be stored to where it may be, nothing elsewhere in its place, and all
-- else as before
abbrev pub with_known_line : (at spot : ℕ) → (write store : Bool) → (block : ℕ) → Option ℕ → Option ℕ
with_known_line at spot write store block before =
    if block_place block == block_place at then (if block == at && not (store && not write) then Some spot else None) else before
