use Rattle.job_text.proofs.Lemmas.{one_more, arith, common_steps}
use Rattle.job_text.proofs.transfer_job.put_begins.Goals as goal

pub loop-place-preserved : goal.loop-place-preserved
loop-place-preserved c = grind (arith, common_steps, one_more)
