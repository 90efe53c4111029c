use Rattle.job_text.proofs.Lemmas.{job_or_fault, no_fault, one_job}
use Rattle.job_text.proofs.job_laws.a_text_has_one_answer.Goals as goal

pub returns-clause-some : goal.returns-clause-some
returns-clause-some c = job_or_fault

pub returns-clause-job : goal.returns-clause-job
returns-clause-job c = one_job

pub returns-clause-fault : goal.returns-clause-fault
returns-clause-fault c = no_fault
