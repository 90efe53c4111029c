use Rattle.frame_pool.proofs.Common.{◌≡◌, length, pool_emptied}
use Rattle.frame_pool.proofs.pool.FramePool.empty.Given as goal

-- the pages that are left go, and the pool is then as if all of them had gone
abbrev pub invariant-loop-page : goal.invariant-loop-page
invariant-loop-page l = pool_emptied l.self ≡ pool_emptied l.initial.self

abbrev pub decreases-loop-page : goal.decreases-loop-page
decreases-loop-page l = length l.self.resident
