use Rattle.frame_pool.proofs.Common.{arith, common_steps}
use Rattle.frame_pool.proofs.frame_bytes.write_over.Goals as goal

pub returns : goal.returns
returns c = grind (arith, common_steps)
