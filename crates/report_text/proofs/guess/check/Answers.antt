use Rattle.report_text.proofs.Common.{ℕ, List, [], ◌∷◌, codes, decimal, refl, big_bytes, encode_lower}
use Rattle.report_text.proofs.guess.check.Goals as goal

pub returns-clause-is : goal.returns-clause-is
returns-clause-is c = λ a code h small is.
    let at : List (List ℕ) = encode_lower (big_bytes 4 h) ∷ [] in
    let one = c.first_small-activation.ensures.parts a (codes "code" ∷ decimal code ∷ codes "at" ∷ at) small.0 is in
    let two = c.first_small-code.ensures.parts code (codes "at" ∷ at) small.1
    (c.behind.ensures.parts (codes "code") (decimal code ∷ codes "at" ∷ at) refl one.1) in
    let three = c.address.ensures h small.2 (c.behind-2.ensures.parts (codes "at") at refl two.1) in
    rw (one.0, two.0, three) refl
