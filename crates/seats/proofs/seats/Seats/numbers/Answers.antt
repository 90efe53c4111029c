use Rattle.seats.proofs.Lemmas.{nat_tests, common_steps, arith, few-taken}
use Rattle.seats.proofs.seats.Seats.numbers.Goals as goal

pub push-requires : goal.push-requires
push-requires c = grind (arith, nat_tests, few-taken)

pub loop-seat-preserved : goal.loop-seat-preserved
loop-seat-preserved c = grind (arith, common_steps)
