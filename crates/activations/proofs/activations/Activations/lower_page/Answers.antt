use Rattle.activations.proofs.Lemmas.{activity_of, Grant, Reach, IsActivitySound, ap, sym, ◌∙◌, subst, one-sound, ◌+◌, granted-owner, taken-of}
use Rattle.activations.proofs.activations.Activations.lower_page.Goals as goal

pub invariant_of-self : goal.invariant_of-self
invariant_of-self c = subst (λ (r : Reach). IsActivitySound (record (activity_of c.self.inside) { reach = r })) (sym c.set_authority.ensures)
    (one-sound (activity_of c.self.inside) c.args.seat c.args.want.now.page c.grant.result c.self.invariant (taken-of c.self.inside c.self.view_is c.args.seat c.requires.taken) (ap (λ (one : Grant). one.owner) c.grant.ensures ∙ granted-owner (c.args.seat + 1) c.held-reads.result.0 c.none.result))
