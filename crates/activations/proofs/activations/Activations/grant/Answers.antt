use Rattle.activations.proofs.Lemmas.{activity_of, Authority, Grant, grant_of, not, Reach, IsActivitySound, ◌≡◌, ◌+◌, ap, sym, ◌∙◌, subst, one-sound, granted-owner, fine-owner, taken-of}
use Rattle.activations.proofs.activations.Activations.grant.Goals.{then-is_fine, else-is_fine}
use Rattle.activations.proofs.activations.Activations.grant.Goals as goal

pub invariant_of-self : goal.invariant_of-self
invariant_of-self c =
    let own : (grant_of c.if-is_fine.entry).owner ≡ c.args.seat + 1 = elim c.if-is_fine.branch [
      | then-is_fine w ↦ ap (λ (one : Authority). (grant_of one).owner) w.entry-is ∙ ap (λ (one : Grant). one.owner) w.grant_fine-entry.ensures ∙ fine-owner (c.args.seat + 1) (not w.is_empty.result) c.held-reads.result.0 c.held-reads.result.1
      | else-is_fine w ↦ ap (λ (one : Authority). (grant_of one).owner) w.entry-is ∙ ap (λ (one : Grant). one.owner) w.grant-entry.ensures ∙ granted-owner (c.args.seat + 1) c.held-reads.result.0 c.held-reads.result.1
    ] in
    subst (λ (r : Reach). IsActivitySound (record (activity_of c.self.inside) { reach = r })) (sym c.set_authority.ensures)
    (one-sound (activity_of c.self.inside) c.args.seat c.args.want.now.page c.if-is_fine.entry c.self.invariant (taken-of c.self.inside c.self.view_is c.args.seat c.requires.taken) own)
