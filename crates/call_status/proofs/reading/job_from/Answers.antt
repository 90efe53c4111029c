use Rattle.std.proofs.Common.{◌∙◌, sym, ap}
use Rattle.job_text.specs.Grammar.{content_of, job_of}
use Rattle.call_status.proofs.reading.job_from.Goals as goal

pub returns-clause-read : goal.returns-clause-read
returns-clause-read g c =
    let text = c.in_ok-text.text.items in
    let whole = c.in_ok-text.ensures.bytes in
    record {
      source = λ is. absurd (cc);
      calm = λ is. c.in_ok-text.ensures.unfailed;
      big = λ is. absurd (cc);
      text = λ past. (text, whole);
      no_job = λ line kind is. absurd (cc);
      job = λ past. (text, whole, (content_of c.in_ok-read_job.field-0, ap job_of (sym c.deref.ensures.value) ∙ c.in_ok-read_job.ensures.answer));
    }
