-- Segments by themselves, each an identifier and a number of pages.
use Rattle.std.specs.Prelude.{ℕ, ◌*◌, ◌==◌, Bool}
use Rattle.lines.specs.declared.line_geometry.PageSize.{PageSize}
use Rattle.lines.specs.declared.line_geometry.PageSize.TheVariants.{Two, Four}

-- the bytes of a page
abbrev pub page_bytes : PageSize → ℕ
page_bytes Two = 2048
page_bytes Four = 4096

-- the bytes of a line: a page has sixteen
abbrev pub line_bytes : PageSize → ℕ
line_bytes Two = 128
line_bytes Four = 256

-- the bytes of a segment, by the bytes of a page
abbrev pub bytes_of : ℕ → ℕ × ℕ → ℕ
bytes_of page segment = segment.1 * page

-- whether a segment has this identifier
abbrev pub is_named : ℕ → ℕ × ℕ → Bool
is_named identifier segment = segment.0 == identifier
