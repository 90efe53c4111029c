use Rattle.seats.proofs.Lemmas.{kept-seated}
use Rattle.seats.proofs.Common.{has, Seating, IsSeating, next_seat, number_in, newcomer, seated, ◌≡◌, ◌<◌, ◌≤◌, ℕ, false, length, set, arith, sym, ap, ◌∙◌, subst, Some, None}
use Rattle.seats.proofs.Ascending.{some-free, none-free}
use Rattle.seats.proofs.seats.Seats.sit.Goals as goal

-- the next seat is one of the sixteen and free
next-free : (seating : Seating) (seat : ℕ) → IsSeating seating → next_seat seating ≡ Some seat → (seat < 16) × (has seating.taken seat ≡ false) × (length seating.taken < 16)
unfolding next_seat
next-free seating seat is next = some-free (number_in seating) seating.taken seat is.among is.ascending next

none-next : (seating : Seating) → IsSeating seating → next_seat seating ≡ None → 16 ≤ length seating.taken
unfolding next_seat
none-next seating is none = none-free (number_in seating) seating.taken is.ascending none

pub index_mut-requires : goal.index_mut-requires
index_mut-requires c =
    let free = next-free c.args.self.now c.in_ok-seat.seat (subst IsSeating c.self.view_is c.self.invariant) (sym c.next_seat.ensures ∙ c.in_ok-seat.was) in
    omega (arith, free.0, c.from.ensures, c.self.invariant.sixteen, c.self.inside.sitters.ok)

pub push-requires : goal.push-requires
push-requires c =
    let free = next-free c.args.self.now c.in_ok-seat.seat (subst IsSeating c.self.view_is c.self.invariant) (sym c.next_seat.ensures ∙ c.in_ok-seat.was) in
    let same : length c.self.inside.taken.items ≡ length c.args.self.now.taken = ap (λ (seating : Seating). length seating.taken) c.self.view_is in
    (omega arith, omega (arith, free.2, same))

pub invariant_of-self : goal.invariant_of-self
invariant_of-self c =
    let free = next-free c.args.self.now c.in_ok-seat.seat (subst IsSeating c.self.view_is c.self.invariant) (sym c.next_seat.ensures ∙ c.in_ok-seat.was) in
    let same : seated c.args.self.now c.in_ok-seat.seat (newcomer c.args.number c.args.program c.args.args)
    ≡ record { taken = c.push.new.self.items; sitters = set c.self.inside.sitters.items c.from.result c.newcomer.result; holding = c.self.inside.locks } =
    (λ i. seated (sym c.self.view_is i) c.in_ok-seat.seat (sym c.newcomer.ensures i))
    ∙ (λ i. record { taken = sym c.push.ensures.items i; sitters = set c.self.inside.sitters.items (sym c.from.ensures i) c.newcomer.result; holding = c.self.inside.locks }) in
    subst IsSeating same
    (kept-seated c.args.self.now (subst IsSeating c.self.view_is c.self.invariant) c.in_ok-seat.seat c.args.number c.args.program c.args.args free.0 free.1 c.requires)

pub returns-clause-full : goal.returns-clause-full
returns-clause-full c =
    let free = next-free c.args.self.now c.in_ok-seat.seat (subst IsSeating c.self.view_is c.self.invariant) (sym c.next_seat.ensures ∙ c.in_ok-seat.was) in
    (λ none. absurd (cc), λ full. absurd (omega (arith, full, free.2)))

pub returns-in_err-seat-clause-full : goal.returns-in_err-seat-clause-full
returns-in_err-seat-clause-full c =
    (λ none. none-next c.args.self.now (subst IsSeating c.self.view_is c.self.invariant) (sym c.next_seat.ensures ∙ c.in_err-seat.was), λ full. c.from_residual.ensures)
