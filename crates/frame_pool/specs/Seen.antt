-- What holds of every pool that is seen.
use Rattle.std.specs.Prelude.{◌≡◌, ℕ, ◌*◌, ◌≤◌, ◌<◌, length, Some, is_some, true}
use Rattle.frame_pool.specs.Below.{has, page_bytes}
use Rattle.frame_pool.specs.declared.pool_model.Pool.{Pool}
use Rattle.frame_pool.specs.Sizes.{private_frames, frame_count}
use Rattle.frame_pool.specs.Pool.{frame_at, page_at}
use Rattle.frame_pool.specs.Sound.{is_apart}

-- its parts have their sizes; there are two frames for pages of the store at least, and no more resident pages than these;
-- no page is resident twice, and one is exactly where it has a frame; pages and frames go by each other, and a frame that has
-- a page is one for pages of the store
pub record IsSeen (pool : Pool) : Type 0 where
  pub bytes : length pool.bytes ≡ frame_count pool.page pool.frames * page_bytes pool.page
  pub page_in : length pool.page_in ≡ frame_count pool.page pool.frames
  pub marked : length pool.marked ≡ length pool.frame_of
  pub kept : length pool.kept ≡ length pool.frame_of * page_bytes pool.page
  pub some : 2 ≤ pool.frames
  pub few : length pool.resident ≤ pool.frames
  pub apart : is_apart pool.resident ≡ true
  pub resident : (page : ℕ) → has pool.resident page ≡ is_some (frame_at pool page)
  pub there : (page frame : ℕ) → frame_at pool page ≡ Some frame → page_at pool frame ≡ Some page
  pub back : (page frame : ℕ) → page_at pool frame ≡ Some page → frame_at pool page ≡ Some frame
  pub above : (page frame : ℕ) → page_at pool frame ≡ Some page → private_frames pool.page ≤ frame
  pub below : (page frame : ℕ) → page_at pool frame ≡ Some page → frame < frame_count pool.page pool.frames
