use Rattle.activations.proofs.Lemmas.{IsActivitySound, Activity, subst, frames-fit, HasFrames}
use Rattle.activations.proofs.activations.Activations.sound.Goals as goal

pub returns : goal.returns
returns c = record {
  sound = subst IsActivitySound c.self.view_is c.self.invariant;
  frames = subst (λ (a : Activity). HasFrames a.reach) c.self.view_is (frames-fit c.self.inside.unit);
}
