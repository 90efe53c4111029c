use Rattle.seats.proofs.Lemmas.{◌≡◌, ◌<◌, ℕ, Bool, length, get_or, arith, ap, sym, ◌∙◌, is_on, marked, unmarked, nat_tests, few-taken}
use Rattle.seats.proofs.seats.Seats.places_of.Goals as goal
use Rattle.seats.proofs.seats.Seats.places_of.Goals.{then-is_on, else-is_on}

pub overflow_cast-places : goal.overflow_cast-places
overflow_cast-places c = grind (arith, nat_tests, few-taken)

pub overflow_shl-places : goal.overflow_shl-places
overflow_shl-places c = grind (arith, nat_tests, few-taken)

pub loop-place-preserved : goal.loop-place-preserved
loop-place-preserved c =
    let few = few-taken c.args.self.now c.taken-seat-items.ensures.sound in
    let same : length c.taken-seat-items.result.now ≡ length c.args.self.now.taken = ap length c.taken-seat-items.ensures.taken in
    let small : c.loop-place.place < 16 = omega (arith, few, same, c.loop-place-test.true) in
    let stands : ℕ → Bool = λ p. is_on c.args.seats (get_or c.taken-seat-items.result.now p 0) in
    elim c.if-is_on.branch [
      | then-is_on w ↦
          λ p below.
          ap (λ (bits : ℕ). is_on bits p) w.places-is
          ∙ marked stands c.loop-place.places c.loop-place.place small c.loop-place.invariant (sym c.is_on.ensures ∙ w.if-is_on.true) p below
      | else-is_on w ↦
          λ p below.
          ap (λ (bits : ℕ). is_on bits p) w.places-is
          ∙ unmarked stands c.loop-place.places c.loop-place.place small c.loop-place.invariant (sym c.is_on.ensures ∙ w.if-is_on.false) p below
    ]
