use Rattle.job_text.proofs.Common.{◌≡◌, ◌++◌, turns_to}
use Rattle.job_text.proofs.reader.turns_to.Given as goal

abbrev pub invariant-loop-before : goal.invariant-loop-before
invariant-loop-before l = l.events.items ≡ l.initial.events.items ++ turns_to l.limit l.before
