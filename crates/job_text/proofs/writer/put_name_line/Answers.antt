use Rattle.job_text.proofs.Common.{common_steps, arith}
use Rattle.job_text.proofs.writer.put_name_line.Goals as goal

pub returns : goal.returns
returns c = grind (arith, common_steps)
