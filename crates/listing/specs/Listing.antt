-- The text of a program's listing.
use Rattle.std.specs.Prelude.{ℕ, ◌+◌, ◌*◌, Bool, true, false, List, [], ◌++◌, length, take, drop, codes, count_by, decimal, is_some, Option, Some, None}
use Rattle.std.specs.Int.{w32, to_be_bytes, div_ceil}
use Rattle.std.specs.List.{flat_map, enumerate_from, range_with_len}
use Rattle.hex.specs.Hex.{encode_lower}
use Rattle.flat_machine.specs.declared.machine.Window.{Window}

-- a number in eight hexadecimal digits
abbrev pub digits_of : ℕ → List ℕ
digits_of number = encode_lower (to_be_bytes w32 number)

-- the first line of a program: its name, the number of its bytes, and its entry address in eight hexadecimal digits
abbrev pub program_line : List ℕ → List ℕ → ℕ → List ℕ
program_line name image entry = codes "program " ++ name ++ codes " bytes " ++ decimal (length image) ++ codes " entry " ++ digits_of entry ++ codes "\n"

-- the end of a window's line: to read alone, or also to write
abbrev pub window_kind : Bool → List ℕ
window_kind false = codes " r\n"
window_kind true = codes " rw\n"

-- the line of the window under a register
abbrev pub window_line : ℕ → Window → List ℕ
window_line register window = codes "window " ++ decimal register ++ codes " segment " ++ decimal window.segment ++ window_kind window.write

-- the same, or nothing where there is no window
abbrev pub place_line : ℕ → Option Window → List ℕ
place_line register (Some window) = window_line register window
place_line register None = []

-- the lines of the windows under the registers from 1 on
abbrev pub window_lines : List (Option Window) → List ℕ
window_lines windows = flat_map (λ place. place_line place.0 place.1) (enumerate_from 1 windows)

-- a row: the offset of its first byte, and its bytes
abbrev pub row_line : ℕ → List ℕ → List ℕ
row_line offset bytes = digits_of offset ++ codes " " ++ encode_lower bytes ++ codes "\n"

-- bytes in rows of sixteen, of which the last has what remains; the first byte has this offset
abbrev pub row_lines : ℕ → List ℕ → List ℕ
row_lines first bytes =
    flat_map (λ row. row_line (first + 16 * row) (take 16 (drop (16 * row) bytes))) (range_with_len 0 (div_ceil (length bytes) 16))

-- the listing of a program with this name, image, entry address and windows under registers 1 to 15: a line, its windows, and its image with offsets from 0 on
abbrev pub listing_of : List ℕ → List ℕ → ℕ → List (Option Window) → List ℕ
listing_of name image entry windows = program_line name image entry ++ window_lines windows ++ row_lines 0 image

-- the lines of a listing: the first, one for each window, and one for each sixteen bytes of the image that begin
abbrev pub lines_in : List ℕ → List (Option Window) → ℕ
lines_in image windows = 1 + count_by is_some windows + div_ceil (length image) 16
