use Rattle.activations.proofs.Lemmas.{Adds}
use Rattle.activations.proofs.commit_record.record_lines.Given as goal

-- what is left of the page's lines is to be added
abbrev pub invariant-loop-line : goal.invariant-loop-line
invariant-loop-line l = Adds l.pool l.page l.fn.lines l.fn.store l.line-iterator.left l.store
