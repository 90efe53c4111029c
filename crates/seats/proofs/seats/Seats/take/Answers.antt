use Rattle.seats.proofs.Lemmas.{◌≡◌, sym, ◌∙◌, subst, taken, IsSeating, taken-below, kept-took}
use Rattle.seats.proofs.seats.Seats.take.Goals as goal

pub take-requires-clause-seat : goal.take-requires-clause-seat
take-requires-clause-seat c = taken-below c.args.self.now (subst IsSeating c.self.view_is c.self.invariant) c.args.seat c.requires.taken

pub invariant_of-self : goal.invariant_of-self
invariant_of-self c =
    let same : record c.args.self.now { holding = taken c.args.self.now.holding c.args.seat c.args.request.now.wants.items } ≡ record { taken = c.self.inside.taken.items; sitters = c.self.inside.sitters.items; holding = c.take.new.self } =
    λ i. record { taken = (sym c.self.view_is i).taken; sitters = (sym c.self.view_is i).sitters; holding = again i } in
    subst IsSeating same (kept-took c.args.self.now (subst IsSeating c.self.view_is c.self.invariant) c.args.seat c.args.request.now.wants.items c.requires.taken)
  where
    again : taken c.args.self.now.holding c.args.seat c.args.request.now.wants.items ≡ c.take.new.self
    again = (λ i. taken (sym c.self.view_is i).holding c.args.seat c.args.request.now.wants.items) ∙ sym c.take.ensures
