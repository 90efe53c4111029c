use Rattle.activations.proofs.Lemmas.{activity_of, few-held, Holding, of_seat, write_count, ap, ◌∙◌, ◌≡◌, arith, subst, IsActivitySound}
use Rattle.activations.proofs.activations.Activations.held_lines.Goals as goal

pub returns-clause-few : goal.returns-clause-few
returns-clause-few c =
    let is : c.written_lines.result ≡ write_count (of_seat c.self.inside.seats.holding c.args.seat) =
    c.written_lines.ensures ∙ ap (λ (holding : Holding). write_count (of_seat holding c.args.seat)) c.locks.ensures in
    omega (arith, is, few-held (activity_of c.self.inside) c.args.seat c.self.invariant c.self.inside.unit.legal c.requires.seat)

pub returns-clause-sound : goal.returns-clause-sound
returns-clause-sound c = subst IsActivitySound c.self.view_is c.self.invariant
