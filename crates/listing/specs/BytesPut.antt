-- What putting bytes does to an outside.
use Rattle.std.specs.Prelude.{ℕ, List, Result}
use Rattle.outside.specs.declared.world.Outside.{Ghosts}
use Rattle.outside.specs.declared.failed.Failed.{Failed}
use Rattle.outside.specs.Bytes.{Prints}
use Rattle.outside.specs.Runs.{OnlyPuts}
pub use Rattle.outside.specs.Runs.{PutsTimes}

-- These bytes are printed, or a prefix of them where a put failed, and that only where the screen's count rose.
-- The disk is left alone: it records no call, its bytes, writes and count of faults stay, and each image that a crash may have left since is one that it may have left at the start.
pub record PrintsBytes {W T : Type 0} (G : Ghosts W) (bytes : List ℕ) (old new : W) (result : Result T Failed) : Type 0 where
  pub printed : Prints (G.printed old) (G.printed new) bytes result
  pub only : OnlyPuts G old new result
  pub images : (image seen : List ℕ) → G.left_since new (G.moment old) image seen → (start : List ℕ) × G.left_since old (G.moment old) image start
