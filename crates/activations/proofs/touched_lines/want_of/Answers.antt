use Rattle.activations.proofs.Lemmas.{sym, ◌∙◌, ap, sets-one, rules, ◌≡◌, sets_between, one-page}
use Rattle.activations.proofs.touched_lines.want_of.Goals.{then-store, else-store}
use Rattle.activations.proofs.touched_lines.want_of.Goals as goal

pub returns : goal.returns
returns c =
    let made : c.if-store.reads ≡ sets_between c.args.first c.args.last c.args.store =
    elim c.if-store.branch [
      | then-store w ↦ w.reads-is ∙ (λ i. (w.none.ensures i, c.between-lines.ensures i)) ∙ sym (ap (sets_between c.args.first c.args.last) w.if-store.true)
      | else-store w ↦ w.reads-is ∙ (λ i. (c.between-lines.ensures i, w.none-else-store.ensures i)) ∙ sym (ap (sets_between c.args.first c.args.last) w.if-store.false)
    ] in
    record {
      page = search rules;
      lines = one-page c.args.first c.args.last c.args.store c.if-store.reads c.requires.order c.requires.near c.requires.one made;
      sets = sets-one _ c.args.first c.args.last c.args.store c.if-store.reads made;
    }
