use Rattle.report_text.proofs.Common.{ℕ, List, [], ◌∷◌, codes, decimal, refl}
use Rattle.report_text.proofs.guess.turn.Goals as goal

pub returns-clause-is : goal.returns-clause-is
returns-clause-is c = λ a r p l small is.
    let locks : List (List ℕ) = codes "lock" ∷ decimal l ∷ [] in
    let pages : List (List ℕ) = codes "page" ∷ decimal p ∷ locks in
    let one = c.first_small-activation.ensures.parts a (codes "ran" ∷ decimal r ∷ pages) small.0 is in
    let two = c.first_small-ran.ensures.parts r pages small.1 (c.behind.ensures.parts (codes "ran") (decimal r ∷ pages) refl one.1) in
    let three = c.first_small-pages.ensures.parts p locks small.2 (c.behind-2.ensures.parts (codes "page") (decimal p ∷ locks) refl two.1) in
    let four = c.first_small-locks.ensures.parts l [] small.3 (c.behind-3.ensures.parts (codes "lock") (decimal l ∷ []) refl three.1) in
    rw (one.0, two.0, three.0, four.0) refl
