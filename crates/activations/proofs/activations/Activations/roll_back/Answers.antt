use Rattle.activations.proofs.Lemmas.{refl}
use Rattle.activations.proofs.activations.Activations.roll_back.Goals as goal

pub returns : goal.returns
returns c = c.end.ensures.rolls refl
