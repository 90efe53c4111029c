use Rattle.report_text.proofs.Common.{[], ◌∷◌}
use Rattle.report_text.proofs.guess.named.Goals as goal

pub returns : goal.returns
returns c = λ a name small is. c.first_small.ensures.parts a (name ∷ []) small is
