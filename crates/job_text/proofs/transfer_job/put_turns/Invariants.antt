use Rattle.job_text.proofs.Common.{◌≡◌, ◌++◌, turns_of}
use Rattle.job_text.proofs.transfer_job.put_turns.Given as goal

abbrev pub invariant-loop-place : goal.invariant-loop-place
invariant-loop-place l = l.events.items ≡ l.initial.events.items ++ turns_of l.limit l.first l.place
