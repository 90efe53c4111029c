use Rattle.standby.proofs.Lemmas.{◌≡◌, ◌∷◌, ◌++◌, List, ℕ, decimal, drop, sym, ap, ◌∙◌, arith, head_line, common_steps, head_parts}
use Rattle.standby.proofs.ship_reading.head_of.Goals as goal

pub returns-in-None : goal.returns-in-None
returns-in-None c = λ bytes lines start rest some short few small is.
    let skipped : c.skip.result.now ≡ decimal bytes ++ 32 ∷ (decimal lines ++ 32 ∷ (decimal start ++ 10 ∷ rest)) = c.skip.ensures ∙ ap (λ (text : List ℕ). drop 5 text) (is ∙ head_parts bytes lines start rest) in
    let first = c.number_to-line_bytes.ensures bytes (decimal lines ++ 32 ∷ (decimal start ++ 10 ∷ rest)) (omega (arith, short)) skipped in
    let second = c.number_to-lines.ensures lines (decimal start ++ 10 ∷ rest) (omega (arith, few)) first.1 in
    let third = c.number_to-start.ensures start rest small second.1 in
    let sized = c.short-line_bytes.ensures (omega (arith, short, first.0)) ∙ first.0 in
    let many = c.small-lines.ensures (omega (arith, few, second.0)) ∙ second.0 in
    c.in-None.ensures rest
    (is
    ∙ ap (λ (n : ℕ). head_line n lines start ++ rest) (sym sized)
    ∙ ap (λ (n : ℕ). head_line c.short-line_bytes.result n start ++ rest) (sym many)
    ∙ ap (λ (n : ℕ). head_line c.short-line_bytes.result c.small-lines.result n ++ rest) (sym third.0)
    ∙ ap (λ (line : List ℕ). line ++ rest) (sym (c.as_slice.ensures ∙ c.fill_head.ensures)))

pub returns-then-line_bytes-eq0 : goal.returns-then-line_bytes-eq0
returns-then-line_bytes-eq0 c = grind (arith, common_steps)
