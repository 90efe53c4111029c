use Rattle.seats.proofs.Lemmas.{take_more, map-append, waits_in, Seating, number_in, seat_waits, seat_at, cycle_of, nat_tests, common_steps, ◌≡◌, ◌<◌, ℕ, List, [], ◌∷◌, ◌++◌, Some, map, take, length, get_or, take_all, arith, ap, sym, subst, ◌∙◌, has-at}
use Rattle.seats.proofs.Numbers.{cycle-numbered, cycle-none, member-below}
use Rattle.seats.proofs.seats.Seats.cycle_from.Goals as goal

-- rows of waits among the taken seats
abbrev AreRows : Seating → List ℕ → Type 0
AreRows seating rows =
    (length rows ≡ length seating.taken)
    × ((from to : ℕ) → from < length seating.taken → to < length seating.taken → waits_in rows from to ≡ seat_waits seating (seat_at seating from) (seat_at seating to))

pub returns-in_err-places : goal.returns-in_err-places
returns-in_err-places c = grind (arith, nat_tests, cycle-none)

pub bounds-taken-from : goal.bounds-taken-from
bounds-taken-from c =
    let seating = c.args.self.now in
    let are : AreRows seating c.deref.result.now = subst (AreRows seating) (sym c.deref.ensures.0) (c.rows_of_waits.ensures.long, c.rows_of_waits.ensures.rows) in
    let items : List ℕ = c.as_slice-place-items.result.now in
    let below = member-below seating c.taken-taken.ensures.sound c.deref.result.now are.0 are.1 c.place_of.result items (get_or items c.loop-place.place-index 0) c.place_of.ensures.within
    (sym c.in_ok-places.ensures ∙ ap (λ (these : List ℕ). Some these) (sym c.as_slice-place-items.ensures.value)) (has-at items c.loop-place.place-index 0 c.loop-place-test.true) in
    omega (arith, below, c.from.ensures, ap length c.taken-taken.ensures.taken)

pub push-requires : goal.push-requires
push-requires c = (omega arith, omega (arith, c.loop-place.invariant.long, c.loop-place-test.true, c.as_slice-place-items.ensures.fits))

pub loop-place-preserved : goal.loop-place-preserved
loop-place-preserved c =
    let seating = c.args.self.now in
    let items : List ℕ = c.as_slice-place-items.result.now in
    let number : ℕ → ℕ = λ place. number_in seating (seat_at seating place) in
    record {
      long = omega (arith, c.push.ensures.len, c.loop-place.invariant.long);
      numbers =
          c.push.ensures.items
          ∙ (λ i. c.loop-place.invariant.numbers i ++ (c.sitter.ensures i).number ∷ [])
          ∙ (λ i. map number (take c.loop-place.place-index items) ++ number_in seating (get_or (c.taken-taken.ensures.taken i) (c.from.ensures i) 0) ∷ [])
          ∙ sym (ap (map number) (take_more items c.loop-place.place-index 0 c.loop-place-test.true) ∙ map-append number (take c.loop-place.place-index items) (get_or items c.loop-place.place-index 0 ∷ []));
    }

pub returns : goal.returns
returns c =
    let seating = c.args.self.now in
    let are : AreRows seating c.deref.result.now = subst (AreRows seating) (sym c.deref.ensures.0) (c.rows_of_waits.ensures.long, c.rows_of_waits.ensures.rows) in
    let items : List ℕ = c.as_slice-place-items.result.now in
    let number : ℕ → ℕ = λ place. number_in seating (seat_at seating place) in
    ap (λ (these : List ℕ). Some these) (c.loop-place.invariant.numbers ∙ ap (map number) (take_all c.loop-place.place-index items c.loop-place-test.false))
    ∙ sym (cycle-numbered seating c.taken-taken.ensures.sound c.deref.result.now are.0 are.1 c.place_of.result items c.place_of.ensures.within
    (sym c.in_ok-places.ensures ∙ ap (λ (these : List ℕ). Some these) (sym c.as_slice-place-items.ensures.value)))
    ∙ ap (cycle_of seating) c.place_of.ensures.there

pub sitter-requires : goal.sitter-requires
sitter-requires c = grind (arith, common_steps)
