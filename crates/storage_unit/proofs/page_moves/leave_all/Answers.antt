use Rattle.storage_unit.proofs.Lemmas.{take, arith, nat_tests, common_steps, fold-long}
use Rattle.storage_unit.proofs.page_moves.leave_all.Goals as goal

pub leave-requires : goal.leave-requires
leave-requires c = grind (arith, nat_tests, fold-long, take)

pub loop-page-preserved : goal.loop-page-preserved
loop-page-preserved c = grind (arith, common_steps)

pub returns : goal.returns
returns c = grind (arith, common_steps)
