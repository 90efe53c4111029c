use Rattle.job_text.proofs.Common.{◌≡◌, ◌++◌, map, range_with_len, transfer}
use Rattle.job_text.proofs.transfer_job.put_begins.Given as goal

abbrev pub invariant-loop-place : goal.invariant-loop-place
invariant-loop-place l = l.events.items ≡ l.initial.events.items ++ map transfer (range_with_len l.first l.place)
