use Rattle.activations.proofs.Lemmas.{below-of}
use Rattle.activations.proofs.activations.Activations.is_seat.Goals as goal

pub returns : goal.returns
returns c = below-of c.self.inside c.self.view_is c.self.invariant c.args.seat c.requires
