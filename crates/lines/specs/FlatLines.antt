-- Flat lines and flat pages.
use Rattle.std.specs.Prelude.{ℕ, ◌*◌, ◌/◌}
use Rattle.lines.specs.Segments.{page_bytes, line_bytes}
use Rattle.lines.specs.Directory.{Layout, page_count}

-- the flat line of a place
abbrev pub line_of : Layout → ℕ → ℕ
line_of directory at = at / line_bytes directory.page

-- the flat page of a place
abbrev pub page_of : Layout → ℕ → ℕ
page_of directory at = at / page_bytes directory.page

-- the lines of all segments
abbrev pub line_count : Layout → ℕ
line_count directory = page_count directory * 16
