use Rattle.activations.proofs.Common.{activity_of, with_lines, written_of, ◌≡◌, take}
use Rattle.activations.proofs.activations.Activations.record_written.Given as goal

-- the record has what is held to write of the pages so far
abbrev pub invariant-loop-page : goal.invariant-loop-page
invariant-loop-page l = l.store ≡ with_lines (activity_of l.self-inside).reach.pool (written_of (activity_of l.self-inside) l.seat (take l.page-index l.page-items)) l.fn.store
