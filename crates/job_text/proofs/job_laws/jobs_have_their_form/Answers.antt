use Rattle.job_text.proofs.FormLemmas.{has_form, form_read}
use Rattle.job_text.proofs.job_laws.jobs_have_their_form.Goals as goal

pub returns : goal.returns
returns c = λ text content. (has_form text content, form_read text content)
