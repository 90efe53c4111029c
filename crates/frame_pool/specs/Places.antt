-- Which pages are resident, in which frames.
use Rattle.std.specs.Prelude.{◌≡◌, ℕ, nat_lt, not, if◌then◌else◌, length, find, option_to_list, List, [], ◌∷◌, ◌++◌, replicate, slice_set, slice_index_or, Option, Some, None, unwrap_or}
use Rattle.frame_pool.specs.Below.{has, PageSize, range_with_len, taken_out}
use Rattle.frame_pool.specs.Sizes.{private_frames, frame_count}

-- the resident pages in the order in which they came, the frame of each page, the page of each frame, and the frames of the
-- store that are free
pub record Places : Type 0 where
  pub page : PageSize
  pub frames : ℕ
  pub resident : List ℕ
  pub frame_of : List (Option ℕ)
  pub page_in : List (Option ℕ)
  pub free : List ℕ

-- no page is resident
abbrev pub fresh_places : PageSize → (frames pages : ℕ) → Places
fresh_places size frames pages =
    record {
      page = size;
      frames = frames;
      resident = [];
      frame_of = replicate pages None;
      page_in = replicate (frame_count size frames) None;
      free = range_with_len (private_frames size) frames;
    }

-- the frame of a page
abbrev pub frame_of_page : Places → ℕ → Option ℕ
frame_of_page places page = slice_index_or places.frame_of page None

-- the page of a frame
abbrev pub place_page : Places → ℕ → Option ℕ
place_page places frame = slice_index_or places.page_in frame None

-- the page that goes out for another: none while a frame is free, else the first that isn't to stay
abbrev pub goes_out : Places → Option ℕ → Option ℕ
goes_out places keep =
    if nat_lt (length places.resident) places.frames then None else find (λ page. not (has (option_to_list keep) page)) places.resident

-- a page left its frame
abbrev pub place_left : Places → (page frame : ℕ) → Places
place_left places page frame =
    record places {
      resident = taken_out (page ∷ []) places.resident;
      frame_of = slice_set places.frame_of page None;
      page_in = slice_set places.page_in frame None;
      free = places.free ++ frame ∷ [];
    }

abbrev pub page_left : Places → ℕ → Places
page_left places page = place_left places page (unwrap_or (frame_of_page places page) 0)

-- a page came into a frame that was free
pub record CameIn (old new : Places) (page frame : ℕ) : Type 0 where
  pub free : old.free ≡ new.free ++ frame ∷ []
  pub rest : new ≡ record old {
    resident = old.resident ++ page ∷ [];
    frame_of = slice_set old.frame_of page (Some frame);
    page_in = slice_set old.page_in frame (Some page);
    free = new.free;
  }
