use Rattle.job_text.proofs.Lemmas.{◌≡◌, ℕ, ◌<◌, ◌^◌, List, ◌++◌, length, codes, ap, sym, subst, ◌∙◌, content_of, job_of, token_line, number_line, job_written, read_back, short_back, job_put}
use Rattle.job_text.proofs.writer.write_job.Goals.{In_ok-put_word_line-2}
use Rattle.job_text.proofs.writer.write_job.Goals as goal

-- the text once all lines are put
text_is : (c : In_ok-put_word_line-2) → c.put_word_line-2.new.text.items ≡ job_written (content_of c.args.job.now)
text_is c =
    let frames : c.put_number_line.new.text.items ≡ token_line (number_line (codes "frames") c.args.job.now.frames) =
    c.in_ok-put_number_line.ensures ∙ ap (λ bytes. bytes ++ token_line (number_line (codes "frames") c.from.result)) c.new-text.ensures.items ∙ ap (λ (count : ℕ). token_line (number_line (codes "frames") count)) c.from.ensures in
    job_put (content_of c.args.job.now) _ _ _ _ _ frames (rw (c.as_slice.ensures.value, c.as_slice-2.ensures.value) at c.in_ok-put_programs.ensures.lines) c.in_ok-put_word_line.ensures (rw (c.as_slice-3.ensures.value, c.as_slice-4.ensures.value) at c.in_ok-put_events.ensures) c.in_ok-put_word_line-2.ensures

pub returns-clause-short : goal.returns-clause-short
returns-clause-short c other is =
    subst (λ (bytes : List ℕ). length bytes < 2 ^ 23) (sym (text_is (goal.at.returns-clause-short c).In_ok-put_word_line-2)) (short_back other c.args.job.now (rw (c.as_slice.ensures.value, c.as_slice-2.ensures.value) at c.in_ok-put_programs.ensures.bytes) is)

pub returns-clause-back : goal.returns-clause-back
returns-clause-back c other is = ap job_of (text_is (goal.at.returns-clause-back c).In_ok-put_word_line-2) ∙ read_back other c.args.job.now (rw (c.as_slice.ensures.value, c.as_slice-2.ensures.value) at c.in_ok-put_programs.ensures.bytes) is
