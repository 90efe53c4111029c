-- One list of bytes for the store, as frames, paging space and committed bytes show it together; and the private bytes.
use Rattle.std.specs.Prelude.{◌≡◌, ℕ, ◌+◌, ◌*◌, ◌%◌, ◌<◌, if◌then◌else◌, Bool, false, List, map, slice_index, slice_range, Some}
use Rattle.storage_unit.specs.Below.{byte_count, frame_at, has, Layout, line_of, marks_at, option_map_or, page_bytes, page_of, page_of_line, Pool, range_with_len}

-- whether a flat line is marked as written
abbrev pub is_line_marked : Pool → (line : ℕ) → Bool
is_line_marked pool line = has (marks_at pool (page_of_line line)) (line % 16)

-- whether the line of a place is
abbrev pub is_marked : Layout → Pool → (place : ℕ) → Bool
is_marked directory pool place = is_line_marked pool (line_of directory place)

-- the byte of a place in a frame that has its page
abbrev pub byte_in_frame : Layout → Pool → (place frame : ℕ) → ℕ
byte_in_frame directory pool place frame = slice_index pool.bytes (frame * page_bytes directory.page + place % page_bytes directory.page)

-- the byte of a place as its frame has it, or this one where its page is in none
abbrev pub byte_shown : Layout → Pool → (place other : ℕ) → ℕ
byte_shown directory pool place other = option_map_or (byte_in_frame directory pool place) (frame_at pool (page_of directory place)) other

-- the byte of a place: from its frame where its page is in one, else as it is kept where its line is marked, else as committed
abbrev pub byte_over : Layout → Pool → (committed : List ℕ) → (place : ℕ) → ℕ
byte_over directory pool committed place =
    byte_shown directory pool place (if is_marked directory pool place then slice_index pool.kept place else slice_index committed place)

-- all bytes of the store
abbrev pub bytes_over : Layout → Pool → (committed : List ℕ) → List ℕ
bytes_over directory pool committed = map (byte_over directory pool committed) (range_with_len 0 (byte_count directory))

-- the private bytes of a seat
abbrev pub private_bytes : Pool → (seat : ℕ) → List ℕ
private_bytes pool seat = slice_range pool.bytes (seat * 16384) (seat * 16384 + 16384)

-- what a frame has of a line that isn't marked is committed
abbrev pub IsClean : Layout → Pool → (committed : List ℕ) → Type 0
IsClean directory pool committed =
    (place frame : ℕ) → place < byte_count directory
    → frame_at pool (page_of directory place) ≡ Some frame → is_marked directory pool place ≡ false
    → byte_in_frame directory pool place frame ≡ slice_index committed place
