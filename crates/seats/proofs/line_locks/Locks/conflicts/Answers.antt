use Rattle.seats.proofs.Lemmas.{◌∙◌, sym, is_in_conflict, seats-start, seat-on, seat-off}
use Rattle.seats.proofs.line_locks.Locks.conflicts.Goals.{then-is_in_conflict, else-is_in_conflict}
use Rattle.seats.proofs.line_locks.Locks.conflicts.Goals as goal

pub loop-other-init : goal.loop-other-init
loop-other-init c = seats-start (is_in_conflict c.args.self.now c.args.seat c.args.request.now.wants.items)

pub loop-other-preserved : goal.loop-other-preserved
loop-other-preserved c =
    let passes = is_in_conflict c.args.self.now c.args.seat c.args.request.now.wants.items in
    elim c.if-is_in_conflict.branch [
      | then-is_in_conflict w ↦
          w.bits-is
          ∙ seat-on passes c.loop-other.other c.loop-other.bits c.loop-other-test.true c.loop-other.invariant
          (sym c.is_in_conflict.ensures ∙ w.if-is_in_conflict.true)
      | else-is_in_conflict w ↦
          w.bits-is
          ∙ seat-off passes c.loop-other.other c.loop-other.bits c.loop-other.invariant
          (sym c.is_in_conflict.ensures ∙ w.if-is_in_conflict.false)
    ]
