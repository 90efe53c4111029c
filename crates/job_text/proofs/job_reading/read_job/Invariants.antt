use Rattle.job_text.proofs.Common.{◌≡◌, ◌+◌, ◌≤◌, length, text_lines, job_of, read_from, held, reading_of}
use Rattle.job_text.proofs.job_reading.read_job.Given as goal

abbrev pub invariant-loop-line : goal.invariant-loop-line
invariant-loop-line l = record {
  so_far : read_from (reading_of l.reader) l.number (text_lines l.left) ≡ job_of l.text;
  number : l.number + length l.left ≤ length l.text + 1;
  few : held l.reader + length l.left ≤ length l.text;
}

abbrev pub decreases-loop-line : goal.decreases-loop-line
decreases-loop-line l = length l.left
