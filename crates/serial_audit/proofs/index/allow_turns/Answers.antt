use Rattle.serial_audit.proofs.Lemmas.{[], get_or, refl, ◌∙◌, slice_get-get_or, Begin, past_other, past_turn, turned}
use Rattle.serial_audit.proofs.index.allow_turns.Goals as goal
use Rattle.serial_audit.proofs.index.allow_turns.Goals.{in-Turn+in-Some, in-Turn+in-None, in_default}

pub loop-event-preserved : goal.loop-event-preserved
loop-event-preserved c =
    let events = c.args.events.now in
    let i = c.loop-event.event-index in
    elim c.match-event.branch [
      | in-Turn+in-Some w ↦
          let place = w.in-Some.place in
          let first = w.index-entries-place.result in
          let more = w.saturating_add-entry.ensures ∙ rw w.from.ensures refl in
          rw (w.entries-is, more)
          (turned events i w.in-Turn.activation w.in-Turn.limit place (Begin 0 []) c.args.entries.now c.loop-event.entries
          (get_or c.loop-event.entries place first) c.loop-event-test.true w.in-Turn.is w.in-Some.ensures.0 w.in-Some.ensures.1
          (slice_get-get_or c.loop-event.entries place first w.in-Some.ensures.0) c.loop-event.invariant)
      | in-Turn+in-None w ↦
          rw w.entries-is (past_turn events i w.in-Turn.activation w.in-Turn.limit (Begin 0 []) c.args.entries.now c.loop-event.entries c.loop-event-test.true w.in-Turn.is w.in-None.ensures c.loop-event.invariant)
      | in_default w ↦
          rw w.entries-is (past_other events i (Begin 0 []) c.args.entries.now c.loop-event.entries c.loop-event-test.true w.in_default.not-Turn c.loop-event.invariant)
    ]
