use Rattle.job_text.proofs.Common.{common_steps, arith}
use Rattle.job_text.proofs.reader.Reader.program_begins.Goals as goal

pub returns-clause-read : goal.returns-clause-read
returns-clause-read c = grind (arith, common_steps)
