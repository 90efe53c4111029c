use Rattle.report_text.proofs.Common.{ℕ, List, [], ◌∷◌, codes, decimal, refl}
use Rattle.report_text.proofs.guess.journal.Goals as goal

pub returns-clause-is : goal.returns-clause-is
returns-clause-is c = λ a l m small is.
    let limit : List (List ℕ) = codes "limit" ∷ decimal m ∷ [] in
    let one = c.first_small-activation.ensures.parts a (codes "lines" ∷ decimal l ∷ limit) small.0 is in
    let two = c.first_small-lines.ensures.parts l limit small.1 (c.behind.ensures.parts (codes "lines") (decimal l ∷ limit) refl one.1) in
    let three = c.first_small-limit.ensures.parts m [] small.2 (c.behind-2.ensures.parts (codes "limit") (decimal m ∷ []) refl two.1) in
    rw (one.0, two.0, three.0) refl
