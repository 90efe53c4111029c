use Rattle.job_text.proofs.Common.{◌≡◌, ◌++◌, rounds_of}
use Rattle.job_text.proofs.reader.drain.Given as goal

abbrev pub invariant-loop-round : goal.invariant-loop-round
invariant-loop-round l = l.events.items ≡ l.initial.events.items ++ rounds_of l.limit l.last l._round
