-- How the places of pages agree.
use Rattle.std.specs.Prelude.{◌≡◌, ℕ, ◌+◌, ◌≤◌, ◌<◌, ◌&&◌, not, Bool, true, List, [], ◌∷◌, length, Some, None, is_some}
use Rattle.lines.specs.Sets.{has}
use Rattle.frame_pool.specs.Sizes.{private_frames, frame_count}
use Rattle.frame_pool.specs.Places.{Places, frame_of_page, place_page}

-- whether no number stands twice
abbrev pub is_apart : List ℕ → Bool
is_apart [] = true
is_apart (x ∷ xs) = not (has xs x) && is_apart xs

-- a frame of the store
pub record IsOfStore (places : Places) (frame : ℕ) : Type 0 where
  pub above : private_frames places.page ≤ frame
  pub below : frame < frame_count places.page places.frames

-- the sizes of the parts
pub record IsSized (places : Places) : Type 0 where
  pub some : 2 ≤ places.frames
  pub few : places.frames ≤ 1024
  pub page_in : length places.page_in ≡ frame_count places.page places.frames

-- pages and frames by each other; a frame of the store is in use or free, once
pub record IsPlaced (places : Places) : Type 0 where
  pub used : length places.resident + length places.free ≡ places.frames
  pub pages_apart : is_apart places.resident ≡ true
  pub free_apart : is_apart places.free ≡ true
  pub resident : (page : ℕ) → has places.resident page ≡ is_some (frame_of_page places page)
  pub there : (page frame : ℕ) → frame_of_page places page ≡ Some frame → place_page places frame ≡ Some page
  pub back : (page frame : ℕ) → place_page places frame ≡ Some page → frame_of_page places page ≡ Some frame
  pub in_use : (page frame : ℕ) → place_page places frame ≡ Some page → IsOfStore places frame
  pub is_free : (frame : ℕ) → has places.free frame ≡ true → (place_page places frame ≡ None) × IsOfStore places frame

pub record ArePlacesSound (places : Places) : Type 0 where
  pub sized : IsSized places
  pub placed : IsPlaced places
