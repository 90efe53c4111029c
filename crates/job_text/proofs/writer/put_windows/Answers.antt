use Rattle.job_text.proofs.Common.{common_steps, arith}
use Rattle.job_text.proofs.writer.put_windows.Goals as goal

pub loop-window-preserved : goal.loop-window-preserved
loop-window-preserved c = grind (arith, common_steps)

pub returns : goal.returns
returns c = grind (arith, common_steps)
