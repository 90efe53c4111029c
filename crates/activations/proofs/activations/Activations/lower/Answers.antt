use Rattle.activations.proofs.Lemmas.{page_count, Activity, ◌<◌, sym, subst, arith, second_within, one_within, first_within}
use Rattle.activations.proofs.activations.Activations.lower.Goals as goal

pub lower_page-requires-in-Two-2-clause-page : goal.lower_page-requires-in-Two-2-clause-page
lower_page-requires-in-Two-2-clause-page c =
    subst (λ (a : Activity). c.in-Two.second.page < page_count a.reach.directory) (sym c.lower_page-in-Two.ensures.shape)
    (second_within (page_count c.args.self.now.reach.directory) c.args.touch.now c.in-Two.first c.in-Two.second c.requires.pages c.in-Two.is)

pub lower_page-requires-in-Two-clause-page : goal.lower_page-requires-in-Two-clause-page
lower_page-requires-in-Two-clause-page c = grind (arith, one_within, first_within, second_within)
