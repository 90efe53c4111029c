use Rattle.job_text.proofs.Common.{common_steps, arith}
use Rattle.job_text.proofs.writer.put_begin.Goals as goal

pub loop-arg-preserved : goal.loop-arg-preserved
loop-arg-preserved c = grind (arith, common_steps)
