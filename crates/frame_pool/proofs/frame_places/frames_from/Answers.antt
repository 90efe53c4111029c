use Rattle.frame_pool.proofs.Lemmas.{nat_tests, arith, range_push}
use Rattle.frame_pool.proofs.frame_places.frames_from.Goals as goal

pub loop-frame-preserved : goal.loop-frame-preserved
loop-frame-preserved c = grind (arith, nat_tests, range_push c.args.first c.loop-frame.frame)
