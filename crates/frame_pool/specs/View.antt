-- What a `FramePool` is seen as, and the sizes of its parts.
use Rattle.std.specs.Prelude.{◌≡◌, ◌*◌, length, vec_len}
use Rattle.frame_pool.specs.Below.{page_bytes}
use Rattle.frame_pool.specs.declared.pool_model.Pool.{Pool}
use Rattle.frame_pool.specs.Sizes.{frame_count}
use Rattle.frame_pool.specs.declared.pool.FramePool.TheInside.{Inside}

abbrev pub pool_shown : Inside → Pool
pool_shown pool =
    record {
      page = pool.places.page;
      frames = pool.places.frames;
      bytes = pool.bytes;
      resident = pool.places.resident.order;
      frame_of = pool.places.frame_of.items;
      page_in = pool.places.page_in.items;
      marked = pool.marked.items;
      kept = pool.kept;
    }

-- the bytes of frames and of paging space, and the marks, are as many as there are frames and pages
pub record PoolHasSizes (pool : Inside) : Type 0 where
  pub bytes : length pool.bytes ≡ frame_count pool.places.page pool.places.frames * page_bytes pool.places.page
  pub marked : vec_len pool.marked ≡ vec_len pool.places.frame_of
  pub kept : length pool.kept ≡ vec_len pool.places.frame_of * page_bytes pool.places.page
