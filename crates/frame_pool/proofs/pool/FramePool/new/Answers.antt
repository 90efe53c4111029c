use Rattle.frame_pool.proofs.Common.{arith, common_steps}
use Rattle.frame_pool.proofs.pool.FramePool.new.Goals as goal

pub invariant_of-result : goal.invariant_of-result
invariant_of-result c = grind (arith, common_steps)
