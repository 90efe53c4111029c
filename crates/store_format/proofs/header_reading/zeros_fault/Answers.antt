use Rattle.store_format.proofs.Lemmas.{◌≡◌, ℕ, ◌+◌, ◌-◌, ◌∷◌, [], ◌∙◌, sym, ap, slice_index, is_some, Option, within, zeros, first_fault, zeros_more, or_first, or_second}
use Rattle.store_format.proofs.header_reading.zeros_fault.Goals as goal
use Rattle.store_format.proofs.header_reading.zeros_fault.Goals.{After-is_some}

here : (c : goal.After-is_some) → c.number_fault-fault.result ≡ first_fault c.args.length (within c.loop-at.at 1 (slice_index c.args.head.now c.loop-at.at) 0 0 ∷ [])
here c = c.number_fault-fault.ensures ∙ ap (λ (n : ℕ). first_fault c.args.length (within c.loop-at.at 1 n 0 0 ∷ [])) c.into.ensures

pub returns-then-is_some : goal.returns-then-is_some
returns-then-is_some c =
    let is = here (goal.at.returns-then-is_some c).After-is_some in
    cc (is, or_first _ (first_fault c.args.length (zeros c.args.head.now (c.loop-at.at + 1) (c.args.to - (c.loop-at.at + 1)))) (ap (λ (fault : Option ℕ). is_some fault) (sym is) ∙ sym c.is_some.ensures ∙ c.if-is_some.true), zeros_more c.args.head.now c.args.length c.loop-at.at c.args.to c.loop-at-test.true, c.loop-at.invariant)

pub loop-at-preserved : goal.loop-at-preserved
loop-at-preserved c =
    let is = here (goal.at.loop-at-preserved c).After-is_some in
    cc (or_second _ (first_fault c.args.length (zeros c.args.head.now (c.loop-at.at + 1) (c.args.to - (c.loop-at.at + 1)))) (ap (λ (fault : Option ℕ). is_some fault) (sym is) ∙ sym c.is_some.ensures ∙ c.if-is_some.false), zeros_more c.args.head.now c.args.length c.loop-at.at c.args.to c.loop-at-test.true, c.loop-at.invariant)
