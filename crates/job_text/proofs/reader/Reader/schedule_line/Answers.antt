use Rattle.job_text.proofs.Common.{common_steps, arith}
use Rattle.job_text.proofs.reader.Reader.schedule_line.Goals as goal

pub returns-in-Word-3-clause-read : goal.returns-in-Word-3-clause-read
returns-in-Word-3-clause-read c = grind (arith, common_steps)
