use Rattle.job_text.proofs.Common.{◌≡◌, ◌++◌, ◌*◌, ◌-◌, min, flat_map, range_with_len, batch}
use Rattle.job_text.proofs.transfer_job.put_batches.Given as goal

abbrev pub invariant-loop-place : goal.invariant-loop-place
invariant-loop-place l = l.events.items ≡ l.initial.events.items ++ flat_map (λ i. batch (16 * i) (min 16 (l.transfers - 16 * i))) (range_with_len 0 l.place)
