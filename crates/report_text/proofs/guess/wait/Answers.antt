use Rattle.report_text.proofs.Common.{map, ◌∷◌, codes, decimal, refl}
use Rattle.report_text.proofs.guess.wait.Goals as goal

pub returns : goal.returns
returns c = λ a holders small_a is.
    let one = c.first_small-activation.ensures.parts a (codes "for" ∷ map decimal holders) small_a is in
    (one.0, c.behind.ensures.parts (codes "for") (map decimal holders) refl one.1)
