use Rattle.seats.proofs.Lemmas.{◌≡◌, ◌≤◌, ◌+◌, ◌-◌, ◌&&◌, ℕ, Bool, List, nat_lt, length, arith, ap, ◌∙◌, refl, leads, is_on, waits_in, row_places, Leading, leads-more, leads-still}
use Rattle.seats.proofs.wait_cycles.leading_to.Goals as goal

pub loop-step-preserved : goal.loop-step-preserved
loop-step-preserved c = λ p below.
    c.waiting_for-next.ensures p below
    ∙ ap (λ (there : Bool). nat_lt p (length c.args.waits.now) && there)
    (leads-more (waits_in c.args.waits.now) (length c.args.waits.now) c.requires.few c.args.to _ c.loop-step.leading c.loop-step._step p c.requires.to c.loop-step.invariant refl)

-- a walk of some steps is one of as many as there are rows
by_all : (waits : List ℕ) (to leading steps : ℕ) → steps ≡ length waits → (few : length waits ≤ 16) → Leading (waits_in waits) (length waits) few to leading steps → Leading (waits_in waits) (length waits) few to leading (length waits)
by_all waits to leading steps all few so_far = λ p below. so_far p below ∙ ap (λ (count : ℕ). nat_lt p (length waits) && leads (waits_in waits) (row_places waits) count p to) all

pub returns-then-next-leading : goal.returns-then-next-leading
returns-then-next-leading c = λ place below.
    let same : c.loop-step.leading ≡ c.waiting_for-next.result = omega (arith, c.if-next-leading.true) in
    by_all c.args.waits.now c.args.to c.loop-step.leading (c.loop-step._step + (length c.args.waits.now - c.loop-step._step)) (omega (arith, c.loop-step-test.true)) c.requires.few
    (leads-still (waits_in c.args.waits.now) (length c.args.waits.now) c.requires.few c.args.to c.loop-step.leading c.loop-step._step c.loop-step.invariant
    (λ p small.
    ap (λ (bits : ℕ). is_on bits p) same
    ∙ c.waiting_for-next.ensures p small
    ∙ ap (λ (there : Bool). nat_lt p (length c.args.waits.now) && there)
    (leads-more (waits_in c.args.waits.now) (length c.args.waits.now) c.requires.few c.args.to _ c.loop-step.leading c.loop-step._step p c.requires.to c.loop-step.invariant refl))
    (length c.args.waits.now - c.loop-step._step))
    place below

pub returns : goal.returns
returns c = λ place below.
    by_all c.args.waits.now c.args.to c.loop-step.leading c.loop-step._step (omega (arith, c.loop-step-test.false, c.loop-step.auto._step-end)) c.requires.few c.loop-step.invariant place below
