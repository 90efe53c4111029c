use Rattle.job_text.proofs.Lemmas.{some_more, arith, common_steps}
use Rattle.job_text.proofs.transfer_job.put_batches.Goals as goal

pub loop-place-preserved : goal.loop-place-preserved
loop-place-preserved c = grind (arith, common_steps, some_more)
