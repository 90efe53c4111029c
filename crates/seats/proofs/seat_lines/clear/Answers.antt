use Rattle.seats.proofs.Common.{arith, common_steps}
use Rattle.seats.proofs.seat_lines.clear.Goals as goal

pub loop-page-preserved : goal.loop-page-preserved
loop-page-preserved c = grind (arith, common_steps)
