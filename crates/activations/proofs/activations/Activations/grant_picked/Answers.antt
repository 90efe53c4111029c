use Rattle.activations.proofs.Lemmas.{page_count, Activity, ◌<◌, sym, subst, arith, second_within, one_within, first_within}
use Rattle.activations.proofs.activations.Activations.grant_picked.Goals as goal

pub grant_if-requires-in-Two-2-clause-page : goal.grant_if-requires-in-Two-2-clause-page
grant_if-requires-in-Two-2-clause-page c =
    subst (λ (a : Activity). c.in-Two.second.page < page_count a.reach.directory) (sym c.grant_if-in-Two.ensures.shape)
    (second_within (page_count c.args.self.now.reach.directory) c.args.touch.now c.in-Two.first c.in-Two.second c.requires.pages c.in-Two.is)

pub grant_if-requires-in-Two-clause-page : goal.grant_if-requires-in-Two-clause-page
grant_if-requires-in-Two-clause-page c = grind (arith, one_within, first_within, second_within)

pub grant_if-requires-clause-page : goal.grant_if-requires-clause-page
grant_if-requires-clause-page c = grind (arith, one_within, first_within, second_within)
