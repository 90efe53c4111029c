use Rattle.activations.proofs.Lemmas.{subst, reach_of, Activity, WasAttempted, IsActivitySound, runs-of, placed-of}
use Rattle.activations.proofs.activations.Activations.execute.Goals as goal

pub invariant_of-self : goal.invariant_of-self
invariant_of-self c =
    let at = runs-of c.self.inside c.self.view_is c.self.invariant c.args.seat c.requires.taken c.requires.selected c.index_mut.result.now c.from.result c.from.ensures c.index_mut.ensures.value in
    subst IsActivitySound (placed-of c.self.inside c.self.view_is c.args.seat c.from.result c.attempt_on.new.live (reach_of c.attempt_on.new.unit) c.from.ensures) (c.attempt_on.ensures.sound c.args.self.now c.args.seat at)

pub returns : goal.returns
returns c =
    let at = runs-of c.self.inside c.self.view_is c.self.invariant c.args.seat c.requires.taken c.requires.selected c.index_mut.result.now c.from.result c.from.ensures c.index_mut.ensures.value in
    record {
      went = subst (λ (x : Activity). WasAttempted c.attempt_on.result c.args.self.now c.args.seat x) (placed-of c.self.inside c.self.view_is c.args.seat c.from.result c.attempt_on.new.live (reach_of c.attempt_on.new.unit) c.from.ensures)
          (c.attempt_on.ensures.went c.args.self.now c.args.seat at);
    }
