use Rattle.report_text.proofs.Common.{ℕ, List, [], ◌∷◌, codes, decimal, printed, refl}
use Rattle.report_text.proofs.guess.commit.Goals as goal

pub returns : goal.returns
returns c = λ a n s out small_a small_n small_s is.
    let hex : List (List ℕ) = codes "out" ∷ printed out ∷ [] in
    let steps : List (List ℕ) = codes "steps" ∷ decimal s ∷ hex in
    let one = c.first_small-activation.ensures.parts a (codes "number" ∷ decimal n ∷ steps) small_a is in
    let two = c.first_number-number.ensures.parts n steps small_n (c.behind.ensures.parts (codes "number") (decimal n ∷ steps) refl one.1) in
    let three = c.first_number-steps.ensures.parts s hex small_s (c.behind-2.ensures.parts (codes "steps") (decimal s ∷ hex) refl two.1) in
    (one.0, two.0, three.0, c.behind-3.ensures.parts (codes "out") (printed out ∷ []) refl three.1)
