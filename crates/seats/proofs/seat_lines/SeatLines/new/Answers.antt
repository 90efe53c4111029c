use Rattle.seats.proofs.Common.{arith, common_steps}
use Rattle.seats.proofs.seat_lines.SeatLines.new.Goals as goal

pub invariant_of-result : goal.invariant_of-result
invariant_of-result c = grind (arith, common_steps)
