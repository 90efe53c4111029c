use Rattle.standby.proofs.Lemmas.{◌≡◌, ◌∷◌, ◌++◌, [], List, ℕ, codes, decimal, drop, sym, ap, ◌∙◌, arith, encode_lower, common_steps, line_front, line_parts}
use Rattle.standby.proofs.ship_reading.line_of.Goals as goal

pub returns-in-None : goal.returns-in-None
returns-in-None c = λ one that.
    let line = one.0 in let held = one.1 in let rest = one.2 in let parts = that.4 ∙ line_parts line held rest in
    let skipped : c.skip.result.now ≡ decimal line ++ 32 ∷ (encode_lower held ++ 10 ∷ rest) = c.skip.ensures ∙ ap (λ (text : List ℕ). drop 5 text) parts in
    let first = c.number_to-line.ensures line (encode_lower held ++ 10 ∷ rest) (omega (arith, that.1, c.ranges.most.fits)) skipped in
    let number = c.small-line.ensures (omega (arith, that.1, c.ranges.most.fits, first.0)) ∙ first.0 in
    let room : c.as_slice.result.now ≡ (codes "line" ++ 32 ∷ decimal line) ++ 32 ∷ [] =
    c.as_slice.ensures ∙ c.word.ensures.value ∙ ap (λ (these : List ℕ). these ++ 32 ∷ []) (c.number.ensures.value ∙ ap (λ (these : List ℕ). these ++ 32 ∷ decimal c.from.result) c.begin.ensures ∙ ap (λ (n : ℕ). codes "line" ++ 32 ∷ decimal n) (c.from.ensures ∙ number)) in
    c.in-None.ensures (encode_lower held ++ 10 ∷ rest) (parts ∙ sym (line_front line (encode_lower held ++ 10 ∷ rest)) ∙ ap (λ (these : List ℕ). these ++ (encode_lower held ++ 10 ∷ rest)) (sym room))

pub returns-in-Some-2 : goal.returns-in-Some-2
returns-in-Some-2 c = grind (arith, common_steps)

pub returns-in-None-2 : goal.returns-in-None-2
returns-in-None-2 c = λ one that.
    let none = rw c.in-None-2.is at c.in_ok-held-in-Some.ensures in
    grind (arith, common_steps, none (one.1, one.2), that.4)
