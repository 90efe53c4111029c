use Rattle.activations.proofs.Lemmas.{second_within}
use Rattle.activations.proofs.activations.Activations.refused.Goals as goal

pub refuses-requires-in-Two-2-clause-page : goal.refuses-requires-in-Two-2-clause-page
refuses-requires-in-Two-2-clause-page c = second_within _ c.args.touch.now c.in-Two.first c.in-Two.second c.requires.pages c.in-Two.is
