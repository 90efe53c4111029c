-- What a pool ends as, where bytes of its frames are lent.
use Rattle.std.specs.Prelude.{ℕ, ◌+◌, List}
use Rattle.frame_pool.specs.Below.{Array, Fml, Lends, MutBor, u8}
use Rattle.frame_pool.specs.declared.pool_model.Pool.{Pool}
use Rattle.frame_pool.specs.Lending.{with_part}
use Rattle.frame_pool.specs.Pool.{lines_of_part, marked_in, page_start}
use Rattle.frame_pool.specs.contracts.pool.FramePool.{the_row}

-- a pool with bytes of frames written over from a place on
abbrev pub with_frame_part : Pool → ℕ → List ℕ → Pool
with_frame_part pool at part = record pool { bytes = with_part pool.bytes at part }

-- once the borrow ends, the part is what the reference shows last
abbrev pub LendsFrame : MutBor Pool → ℕ → MutBor (List ℕ) → Fml
LendsFrame pool at part = Lends the_row (Array u8 0) pool part (with_frame_part pool.now at)

-- the same of a part of a frame, with its lines marked where a page is in it
abbrev pub LendsMarked : MutBor Pool → (frame at count : ℕ) → MutBor (List ℕ) → Fml
LendsMarked pool frame at count part =
    Lends the_row (Array u8 0) pool part (with_frame_part (marked_in pool.now frame (lines_of_part pool.now.page at count)) (page_start pool.now frame + at))
