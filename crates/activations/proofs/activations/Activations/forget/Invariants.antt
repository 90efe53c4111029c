use Rattle.activations.proofs.Lemmas.{RolledSo}
use Rattle.activations.proofs.activations.Activations.forget.Given as goal

-- those of the seats so far were rolled back
abbrev pub invariant-loop-seat : goal.invariant-loop-seat
invariant-loop-seat l = RolledSo l.seat-counter l.fn.self l.self
