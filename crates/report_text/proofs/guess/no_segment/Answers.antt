use Rattle.report_text.proofs.Lemmas.{[], ◌∷◌, decimal, refl, name_word}
use Rattle.report_text.proofs.guess.no_segment.Goals as goal

pub returns-clause-is : goal.returns-clause-is
returns-clause-is c = λ a s name is_name small is.
    let one = c.first_small-activation.ensures.parts a (name ∷ decimal s ∷ []) small.0 is in
    let two = c.split.ensures.parts name (decimal s ∷ []) (name_word name is_name) one.1 in
    let three = c.first_small-segment.ensures.parts s [] small.1 two.1 in
    rw (one.0, two.0, three.0) refl
