use Rattle.seats.proofs.Lemmas.{nat_tests, common_steps, arith, few-taken}
use Rattle.seats.proofs.seats.Seats.place_of.Goals as goal

pub overflow_add-place : goal.overflow_add-place
overflow_add-place c = grind (arith, nat_tests, few-taken)

pub loop-other-preserved : goal.loop-other-preserved
loop-other-preserved c = grind (arith, common_steps)

pub returns-clause-within : goal.returns-clause-within
returns-clause-within c = grind (arith, common_steps)
