use Rattle.activations.proofs.Lemmas.{take, reach_of, WrittenSo, lines_of, written_in}
use Rattle.activations.proofs.endings.end_written.Given as goal

-- the pages so far that were written into
abbrev pub invariant-loop-page : goal.invariant-loop-page
invariant-loop-page l =
    WrittenSo l.committed (lines_of l.seats.holding l.seat) (written_in (lines_of l.seats.holding l.seat) (take l.page-index l.page-items)) (reach_of l.fn.unit) (reach_of l.unit)
