use Rattle.seats.proofs.Common.{arith, and_le_l, common_steps}
use Rattle.seats.proofs.MeetsLemmas.{meets-bits}
use Rattle.seats.proofs.seat_lines.meets.Goals as goal

pub returns : goal.returns
returns c = grind (arith, common_steps, meets-bits, and_le_l)
