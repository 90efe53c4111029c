use Rattle.seats.proofs.Lemmas.{◌&&◌, ℕ, Bool, slice_index_or, arith, ap, ◌∙◌, list_any, is_on, waits_in, places, and_le_r, meets-some, meets-none, marked, unmarked}
use Rattle.seats.proofs.wait_cycles.waiting_for.Goals as goal
use Rattle.seats.proofs.wait_cycles.waiting_for.Goals.{then-row-goals-ne0, else-row-goals-ne0}

pub loop-place-preserved : goal.loop-place-preserved
loop-place-preserved c =
    let waits_for : ℕ → Bool = λ p. list_any (λ next. waits_in c.args.waits.now p next && is_on c.args.goals next) places in
    elim c.if-row-goals-ne0.branch [
      | then-row-goals-ne0 w ↦
          λ p below.
          ap (λ (bits : ℕ). is_on bits p) w.waiting-is
          ∙ marked waits_for c.loop-place.waiting c.loop-place.place (omega (arith, c.loop-place-test.true, c.requires)) c.loop-place.invariant
          (let row : ℕ = slice_index_or c.args.waits.now c.loop-place.place 0 in meets-some row c.args.goals (omega (arith, w.if-row-goals-ne0.true)) (let less = and_le_r row c.args.goals in omega (arith, less, c.ranges.goals.fits))) p below
      | else-row-goals-ne0 w ↦
          λ p below.
          ap (λ (bits : ℕ). is_on bits p) w.waiting-is
          ∙ unmarked waits_for c.loop-place.waiting c.loop-place.place (omega (arith, c.loop-place-test.true, c.requires)) c.loop-place.invariant (meets-none _ c.args.goals w.if-row-goals-ne0.false) p below
    ]
