use Rattle.seats.proofs.Lemmas.{rules, ◌≡◌, ◌==◌, not, filter, sym, ap, ◌∙◌, subst, Seating, IsSeating, seat_left, kept-left}
use Rattle.arrayvec.proofs.ArrayVecLemmas.{filter-from_retain}
use Rattle.seats.proofs.seats.Seats.leave.Goals as goal

-- the others stay
others : (c : goal.After-release) → c.retain.new.self.items ≡ filter (λ other. not (other == c.args.seat)) c.self.inside.taken.items
others c = filter-from_retain _ (λ other. not (other == c.args.seat)) _ (λ x b f' y called. search rules) c.self.inside.taken.items c.retain.new.self.items c.retain.ensures.filtered

pub invariant_of-self : goal.invariant_of-self
invariant_of-self c =
    let before : Seating = record { taken = c.self.inside.taken.items; sitters = c.self.inside.sitters.items; holding = c.self.inside.locks } in
    subst IsSeating (λ i. record before { taken = sym (others c) i; holding = sym c.release.ensures i }) (kept-left before c.self.invariant c.args.seat c.requires)

pub returns : goal.returns
returns c =
    (λ i. record { taken = others c i; sitters = c.self.inside.sitters.items; holding = c.release.ensures i })
    ∙ ap (λ (seating : Seating). seat_left seating c.args.seat) c.self.view_is
