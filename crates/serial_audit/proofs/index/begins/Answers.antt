use Rattle.serial_audit.proofs.Lemmas.{◌+◌, false, List, [], ◌∷◌, ◌++◌, map, drop, refl, sym, ◌∙◌, ap, append_assoc, map-append, slice_get_past, Begin, Activation, begun, Allowance, activation_in, arith, common_steps, begun_here, begun_later, begun_none, IsFresh, All-push, slice_get_read}
use Rattle.serial_audit.proofs.index.begins.Goals as goal
use Rattle.serial_audit.proofs.index.begins.Goals.{in-Begin+in-Some+in_ok-push-in-Some, in-Begin+in-None, in_default}

pub loop-event-preserved : goal.loop-event-preserved
loop-event-preserved c =
    let programs = c.args.programs.now in
    let events = c.args.events.now in
    let i = c.loop-event.event-index in
    let made = map activation_in c.loop-event.entries.items in
    elim c.match-event.branch [
      | in-Begin+in-Some+in_ok-push-in-Some w ↦
          let look = w.in-Some.ensures.lookup in
          let found = rw w.from.ensures at (slice_get_read programs _ w.from.result w.in-Some.program.now refl look.3.0 look.1) in
          let entry : Allowance = record { program = w.in-Some.program; args = w.in-Begin.args; steps = 0; committed = false } in
          let activation : Activation = record { program = w.in-Some.program.now; args = w.in-Begin.args } in
          let rest = begun programs (drop (i + 1) events) in
          rw (w.entries-is, w.in_ok-push-in-Some.ensures.items) (record {
            begun =
                ap (λ (list : List Activation). list ++ rest) (map-append activation_in c.loop-event.entries.items (entry ∷ []))
                ∙ append_assoc made (activation ∷ []) rest
                ∙ ap (λ (list : List Activation). made ++ list)
                (sym (begun_here programs events i w.in-Begin.program w.in-Begin.args w.in-Some.program.now (Begin 0 []) c.loop-event-test.true w.in-Begin.is found))
                ∙ c.loop-event.invariant.begun;
            fresh = All-push IsFresh c.loop-event.entries.items entry c.loop-event.invariant.fresh (record { steps = refl; uncommitted = refl });
          })
      | in-Begin+in-None w ↦
          let past = rw w.from.ensures at (slice_get_past programs w.from.result w.in-None.ensures.lookup.3) in
          rw w.entries-is (record {
            begun =
                ap (λ (rest : List Activation). made ++ rest) (sym (begun_none programs events i w.in-Begin.program w.in-Begin.args (Begin 0 []) c.loop-event-test.true w.in-Begin.is past))
                ∙ c.loop-event.invariant.begun;
            fresh = c.loop-event.invariant.fresh;
          })
      | in_default w ↦
          rw w.entries-is (record {
            begun =
                ap (λ (rest : List Activation). made ++ rest) (sym (begun_later programs events i (Begin 0 []) c.loop-event-test.true w.in_default.not-Begin))
                ∙ c.loop-event.invariant.begun;
            fresh = c.loop-event.invariant.fresh;
          })
    ]

pub returns : goal.returns
returns c = record { begun = grind (arith, common_steps); fresh = c.loop-event.invariant.fresh }
