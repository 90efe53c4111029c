-- The segments of a store, laid end to end.
use Rattle.std.specs.Prelude.{ℕ, ◌+◌, ◌-◌, ◌/◌, ◌%◌, ◌==◌, nat_lt, if◌then◌else◌, Bool, false, List, [], ◌∷◌, Option, Some, None, not, sum_by, find, take_while, option_map, option_and_then}
use Rattle.lines.specs.declared.line_geometry.PageSize.{PageSize}
use Rattle.lines.specs.Segments.{page_bytes, bytes_of, is_named}

-- the segments of a store, each an identifier and a number of pages, and the flags of the fine ones: bit i, from the lowest, of the i-th from 0
pub record Layout : Type 0 where
  pub page : PageSize
  pub segments : List (ℕ × ℕ)
  pub fine : ℕ

-- the pages of all segments
abbrev pub page_count : Layout → ℕ
page_count directory = sum_by (λ segment. segment.1) directory.segments

-- the bytes of all segments
abbrev pub byte_count : Layout → ℕ
byte_count directory = sum_by (bytes_of (page_bytes directory.page)) directory.segments

-- the length of the segment with this identifier
abbrev pub length_of : Layout → ℕ → Option ℕ
length_of directory identifier = option_map (bytes_of (page_bytes directory.page)) (find (is_named identifier) directory.segments)

-- where the segment with this identifier begins: the sum of the lengths before it
abbrev pub start_of : Layout → ℕ → ℕ
start_of directory identifier =
    sum_by (bytes_of (page_bytes directory.page)) (take_while (λ segment. not (is_named identifier segment)) directory.segments)

-- the place of an offset in a segment, if it lies in it
abbrev pub place : Layout → ℕ → ℕ → Option ℕ
place directory identifier offset =
    option_and_then (λ bytes. if nat_lt offset bytes then Some (start_of directory identifier + offset) else None) (length_of directory identifier)

-- whether the segment that holds a page is fine, by the flags of these segments
abbrev pub fine_among : ℕ → List (ℕ × ℕ) → ℕ → Bool
fine_among fine [] page = false
fine_among fine (segment ∷ segments) page = if nat_lt page segment.1 then fine % 2 == 1 else fine_among (fine / 2) segments (page - segment.1)

-- whether the segment of a flat page is fine
abbrev pub is_fine_page : Layout → ℕ → Bool
is_fine_page directory page = fine_among directory.fine directory.segments page
