use Rattle.activations.proofs.Lemmas.{subst, reach_of, Activity, IsSeatSelected, Strode, IsLineShut, IsAtStop, IsActivitySound, KeepsParts, runs-of, placed-of}
use Rattle.activations.proofs.activations.Activations.stride.Goals as goal

pub invariant_of-self : goal.invariant_of-self
invariant_of-self c =
    let at = runs-of c.self.inside c.self.view_is c.self.invariant c.args.seat c.requires.taken c.requires.selected c.index_mut.result.now c.from.result c.from.ensures c.index_mut.ensures.value in
    subst IsActivitySound (placed-of c.self.inside c.self.view_is c.args.seat c.from.result c.stride_on.new.live (reach_of c.stride_on.new.unit) c.from.ensures) (c.stride_on.ensures.strode _ _ at).runs.sound

pub returns : goal.returns
returns c =
    let at = runs-of c.self.inside c.self.view_is c.self.invariant c.args.seat c.requires.taken c.requires.selected c.index_mut.result.now c.from.result c.from.ensures c.index_mut.ensures.value in
    let back = λ (P : Activity → Type 0). subst P (placed-of c.self.inside c.self.view_is c.args.seat c.from.result c.stride_on.new.live (reach_of c.stride_on.new.unit) c.from.ensures) in
    let went = c.stride_on.ensures.strode _ _ at in
    record {
      selected = back (λ x. IsSeatSelected x c.args.seat) went.runs.selected;
      few = c.stride_on.ensures.few;
      parts = back (λ x. KeepsParts c.args.self.now x 0) went.parts;
      strode = back (Strode c.args.self.now c.args.seat c.stride_on.result.0) went.strode;
      stopped = λ none short. back (λ x. IsAtStop x c.args.seat) (c.stride_on.ensures.stopped none short _ _ at);
      shut = λ access is. back (λ x. IsLineShut x c.args.seat access) (c.stride_on.ensures.shut access is _ _ at);
    }
