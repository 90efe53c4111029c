use Rattle.activations.proofs.Lemmas.{◌∙◌, located_by, lives-of}
use Rattle.activations.proofs.activations.Activations.locate.Goals as goal

pub returns : goal.returns
returns c =
    let runs = lives-of c.self.inside c.self.view_is c.self.invariant c.args.seat c.is_seat.ensures c.index.result.now c.from.result c.from.ensures c.index.ensures in
    c.locate.ensures ∙ (λ i. located_by (runs i).registers c.args.access.address (c.from-2.ensures i) c.args.access.store)
