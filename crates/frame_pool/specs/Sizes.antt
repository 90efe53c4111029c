-- The sizes of frames and lines, by the size of a page.
use Rattle.std.specs.Prelude.{ℕ, ◌+◌, ◌*◌, ◌/◌, ◌^◌}
use Rattle.frame_pool.specs.Below.{line_bytes, page_bytes, PageSize}

-- the frames of private storage: 16,384 bytes for each of sixteen seats
abbrev pub private_frames : PageSize → ℕ
private_frames size = 2 ^ 18 / page_bytes size

-- all frames: those of private storage, and so many for pages of the store
abbrev pub frame_count : PageSize → ℕ → ℕ
frame_count size frames = private_frames size + frames

-- the bytes of a line
abbrev pub line_size : PageSize → ℕ
line_size size = line_bytes size

-- where a line of a frame or of a page begins
abbrev pub line_place : PageSize → (whole line : ℕ) → ℕ
line_place size whole line = whole * page_bytes size + line * line_size size
