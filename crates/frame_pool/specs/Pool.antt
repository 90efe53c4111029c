-- The pool: the bytes of all frames, the resident pages and their frames, the marked lines, and paging space.
use Rattle.std.specs.Prelude.{◌≡◌, ℕ, ◌+◌, ◌-◌, ◌*◌, ◌/◌, ◌≤◌, ◌<◌, ◌==◌, nat_lt, not, if◌then◌else◌, List, [], ◌∷◌, length, replicate, find, fold, slice_range, slice_set, slice_index_or, option_to_list, Option, Some, None}
use Rattle.frame_pool.specs.Below.{between, difference, has, option_map_or, overlaid, page_bytes, PageSize, union, brought, taken_out}
use Rattle.frame_pool.specs.declared.pool_model.Pool.{Pool}
use Rattle.frame_pool.specs.Sizes.{private_frames, frame_count, line_size, line_place}

-- a pool with zeros in its frames, no page resident and no line marked
abbrev pub fresh_pool : PageSize → (frames pages : ℕ) → Pool
fresh_pool size frames pages =
    record {
      page = size;
      frames = frames;
      bytes = replicate (frame_count size frames * page_bytes size) 0;
      resident = [];
      frame_of = replicate pages None;
      page_in = replicate (frame_count size frames) None;
      marked = replicate pages [];
      kept = replicate (pages * page_bytes size) 0;
    }

-- the frame of a page, if it is resident
abbrev pub frame_at : Pool → ℕ → Option ℕ
frame_at pool page = slice_index_or pool.frame_of page None

-- the page of the store in a frame, if there is one
abbrev pub page_at : Pool → ℕ → Option ℕ
page_at pool frame = slice_index_or pool.page_in frame None

-- the marked lines of a page
abbrev pub marks_at : Pool → ℕ → List ℕ
marks_at pool page = slice_index_or pool.marked page []

-- a part of the bytes of a frame, from an offset on
abbrev pub frame_part : Pool → (frame at count : ℕ) → List ℕ
frame_part pool frame at count = slice_range pool.bytes (frame * page_bytes pool.page + at) (frame * page_bytes pool.page + at + count)

-- where a frame begins among the bytes, and a page in paging space
abbrev pub page_start : Pool → ℕ → ℕ
page_start pool frame = frame * page_bytes pool.page

-- the bytes of a frame
abbrev pub frame_bytes : Pool → ℕ → List ℕ
frame_bytes pool frame = slice_range pool.bytes (page_start pool frame) (page_start pool frame + page_bytes pool.page)

-- and those of a page in paging space
abbrev pub page_kept : Pool → ℕ → List ℕ
page_kept pool page = slice_range pool.kept (page_start pool page) (page_start pool page + page_bytes pool.page)

-- the bytes of a line of a frame
abbrev pub line_in_frame : Pool → (frame line : ℕ) → List ℕ
line_in_frame pool frame line = slice_range pool.bytes (line_place pool.page frame line) (line_place pool.page frame line + line_size pool.page)

-- the bytes of a line of a page in paging space
abbrev pub line_kept : Pool → (page line : ℕ) → List ℕ
line_kept pool page line = slice_range pool.kept (line_place pool.page page line) (line_place pool.page page line + line_size pool.page)

-- the bytes of a line of a page: in its frame, or where it is in none in paging space
abbrev pub line_shown : Pool → (page line : ℕ) → List ℕ
line_shown pool page line = option_map_or (λ frame. line_in_frame pool frame line) (frame_at pool page) (line_kept pool page line)

-- paging space after a page left its frame: as it was where no line of the page is marked, else with the frame's bytes
abbrev pub paging_after : Pool → (page frame : ℕ) → List ℕ
paging_after pool page frame =
    if length (marks_at pool page) == 0 then pool.kept else overlaid pool.kept (page * page_bytes pool.page) (frame_bytes pool frame)

-- a page left its frame, if it was in one
abbrev pub gone : Pool → ℕ → Pool
gone pool page =
    option_map_or
    (λ frame. record pool {
      resident = taken_out (page ∷ []) pool.resident;
      frame_of = slice_set pool.frame_of page None;
      page_in = slice_set pool.page_in frame None;
      kept = paging_after pool page frame;
    })
    (frame_at pool page)
    pool

-- the page that goes out for another: none while a frame is free, else the first that isn't to stay
abbrev pub page_out : Pool → Option ℕ → Option ℕ
page_out pool keep = if nat_lt (length pool.resident) pool.frames then None else find (λ page. not (has (option_to_list keep) page)) pool.resident

-- the pool when that page has gone out
abbrev pub with_room : Pool → Option ℕ → Pool
with_room pool keep = option_map_or (gone pool) (page_out pool keep) pool

-- a page came in, last, into a frame of the store that was free when another had gone out
pub record Brought (old new : Pool) (page : ℕ) (keep : Option ℕ) (frame : ℕ) : Type 0 where
  pub above : private_frames old.page ≤ frame
  pub below : frame < frame_count old.page old.frames
  pub free : page_at (with_room old keep) frame ≡ None
  pub rest : new ≡ record (with_room old keep) {
    resident = brought old.frames (option_to_list keep) old.resident page;
    frame_of = slice_set (with_room old keep).frame_of page (Some frame);
    page_in = slice_set (with_room old keep).page_in frame (Some page);
  }

-- marks with lines of a page beside them, if there is one
abbrev pub marked_with : List (List ℕ) → Option ℕ → List ℕ → List (List ℕ)
marked_with marked page lines = option_map_or (λ p. slice_set marked p (union (slice_index_or marked p []) lines)) page marked

-- lines of a page are marked
abbrev pub with_marks : Pool → (page : ℕ) → List ℕ → Pool
with_marks pool page lines = record pool { marked = slice_set pool.marked page (union (marks_at pool page) lines) }

-- lines of the page in a frame are marked, if there is one
abbrev pub marked_in : Pool → (frame : ℕ) → List ℕ → Pool
marked_in pool frame lines = option_map_or (λ page. with_marks pool page lines) (page_at pool frame) pool

-- lines of a page are no longer marked
abbrev pub settled : Pool → (page : ℕ) → List ℕ → Pool
settled pool page lines = record pool { marked = slice_set pool.marked page (difference (marks_at pool page) lines) }

-- a page left its frame, and these of its lines are forgotten
abbrev pub page_undone : Pool → (page : ℕ) → List ℕ → Pool
page_undone pool page lines = gone (settled pool page lines) page

-- all pages left their frames
abbrev pub pool_emptied : Pool → Pool
pool_emptied pool = fold gone pool pool.resident

-- bytes of frames written over from a place on
abbrev pub with_bytes : Pool → ℕ → List ℕ → Pool
with_bytes pool at bytes = record pool { bytes = overlaid pool.bytes at bytes }

-- a kept line of a page lies over that of a frame
abbrev pub line_laid : (page frame : ℕ) → Pool → ℕ → Pool
line_laid page frame pool line = with_bytes pool (line_place pool.page frame line) (line_kept pool page line)

-- the kept page lies over a frame
abbrev pub page_laid : (page frame : ℕ) → Pool → Pool
page_laid page frame pool = with_bytes pool (page_start pool frame) (page_kept pool page)

-- all marked lines of a page lie over those of its frame, if it is in one
abbrev pub kept_laid : Pool → ℕ → Pool
kept_laid pool page = option_map_or (λ frame. fold (line_laid page frame) pool (marks_at pool page)) (frame_at pool page) pool

-- the lines in which a part of a page lies
abbrev pub lines_of_part : PageSize → (at count : ℕ) → List ℕ
lines_of_part size at count = if count == 0 then [] else between (at / line_size size) ((at + count - 1) / line_size size)
