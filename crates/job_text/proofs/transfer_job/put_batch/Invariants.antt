use Rattle.job_text.proofs.Common.{◌≡◌, ◌++◌, flat_map, range_with_len, turns_of}
use Rattle.job_text.proofs.transfer_job.put_batch.Given as goal

abbrev pub invariant-loop-round : goal.invariant-loop-round
invariant-loop-round l = l.events.items ≡ l.initial.events.items ++ flat_map (λ round. turns_of 50 l.first l.count) (range_with_len 0 l._round)
