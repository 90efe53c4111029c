use Rattle.activations.proofs.Lemmas.{refl}
use Rattle.activations.proofs.activations.Activations.commit.Goals as goal

pub returns : goal.returns
returns c = c.end.ensures.commits refl
