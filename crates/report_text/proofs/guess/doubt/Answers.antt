use Rattle.report_text.proofs.Common.{[], ◌∷◌, codes, decimal, refl}
use Rattle.report_text.proofs.guess.doubt.Goals as goal

pub returns-clause-is : goal.returns-clause-is
returns-clause-is c = λ a n small is.
    let one = c.first_small-activation.ensures.parts a (codes "number" ∷ decimal n ∷ []) small.0 is in
    let two = c.first_number-number.ensures.parts n [] small.1 (c.behind.ensures.parts (codes "number") (decimal n ∷ []) refl one.1) in
    rw (one.0, two.0) refl
