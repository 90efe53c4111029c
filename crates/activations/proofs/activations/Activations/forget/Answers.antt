use Rattle.activations.proofs.Lemmas.{activity_of, IsActivitySound, sound-pool, has, Activity, rolled, RollsBack, ◌≡◌, ◌+◌, ℕ, List, sym, ap, ◌∙◌, arith, subst, RolledSo, rolled-none, rolled-past, rolled-step, deserted, restarted-left}
use Rattle.activations.proofs.activations.Activations.forget.Goals as goal
use Rattle.activations.proofs.activations.Activations.forget.Goals.{then-contains, else-contains}

pub loop-seat-init : goal.loop-seat-init
loop-seat-init c = rolled-none c.args.self.now

pub roll_back-requires : goal.roll_back-requires
roll_back-requires c = record {
  taken = ap (λ (a : Activity). has a.seating.taken c.loop-seat.seat-counter) (sym c.self.view_is) ∙ ap (λ (seats : List ℕ). has seats c.loop-seat.seat-counter) (sym c.taken.ensures.taken) ∙ sym c.contains.ensures.value ∙ c.if-contains.true;
}

pub loop-seat-preserved : goal.loop-seat-preserved
loop-seat-preserved c =
    let there : has c.loop-seat.self.seating.taken c.loop-seat.seat-counter ≡ c.contains.result =
    ap (λ (a : Activity). has a.seating.taken c.loop-seat.seat-counter) (sym c.self.view_is) ∙ ap (λ (seats : List ℕ). has seats c.loop-seat.seat-counter) (sym c.taken.ensures.taken) ∙ sym c.contains.ensures.value in
    elim c.if-contains.branch [
      | then-contains w ↦
          rolled-step c.args.self.now c.loop-seat.self c.loop-seat.seat-counter c.loop-seat.invariant c.if-contains.self (there ∙ w.if-contains.true)
          (subst (λ (a : Activity). a ≡ rolled c.loop-seat.self c.loop-seat.seat-counter a.reach.pool) (sym w.self-is) w.roll_back.ensures.shape)
          (λ committed consistent kept. subst (λ (a : Activity). RollsBack c.loop-seat.self c.loop-seat.seat-counter a.reach.pool committed) (sym w.self-is) (w.roll_back.ensures.rolls committed consistent kept))
      | else-contains w ↦
          subst (λ (a : Activity). RolledSo (c.loop-seat.seat-counter + 1) c.args.self.now a) (sym w.self-is)
          (rolled-past c.args.self.now c.loop-seat.self c.loop-seat.seat-counter c.loop-seat.invariant (there ∙ w.if-contains.false))
    ]

pub invariant_of-self : goal.invariant_of-self
invariant_of-self c = subst (λ (r : _). IsActivitySound (record (activity_of c.self-2.inside) { reach = r })) (sym c.empty.ensures) (sound-pool (activity_of c.self-2.inside) _ c.self-2.invariant)

pub returns : goal.returns
returns c =
    let a = c.args.self.now in let last = activity_of c.self-2.inside in
    let all : c.loop-seat.seat-counter ≡ 16 = omega (arith, c.loop-seat-test.false, c.loop-seat.auto.seat-counter-end) in
    let left = subst (RolledSo 16 a) (sym c.self-2.view_is) (subst (λ (n : ℕ). RolledSo n a c.loop-seat.self) all c.loop-seat.invariant) in
    let fits = c.self-2.inside.unit.fits in
    record {
      deserted = deserted a last _ c.self-2.invariant left fits (λ i. record last { reach = c.empty.ensures i });
      restarts = restarted-left a last _ c.self-2.invariant left fits (λ i. record last { reach = c.empty.ensures i }) c.empty.new.self.fits.seen;
    }
