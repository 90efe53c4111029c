use Rattle.job_text.proofs.Common.{common_steps, arith}
use Rattle.job_text.proofs.writer.put_events.Goals as goal

pub loop-event-preserved : goal.loop-event-preserved
loop-event-preserved c = grind (arith, common_steps)
