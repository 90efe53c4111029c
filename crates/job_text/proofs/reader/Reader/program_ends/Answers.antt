use Rattle.job_text.proofs.Common.{common_steps, arith}
use Rattle.job_text.proofs.reader.Reader.program_ends.Goals as goal

pub returns-in_err-push-2-clause-few : goal.returns-in_err-push-2-clause-few
returns-in_err-push-2-clause-few c = grind (arith, common_steps)

pub returns-clause-read : goal.returns-clause-read
returns-clause-read c = grind (arith, common_steps)

pub returns-in_err-program-clause-few : goal.returns-in_err-program-clause-few
returns-in_err-program-clause-few c = grind (arith, common_steps)
