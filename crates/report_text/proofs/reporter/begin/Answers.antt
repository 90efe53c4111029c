use Rattle.report_text.proofs.Common.{ℕ, List, [], ◌∷◌, ◌++◌, ap, sym, ◌∙◌, codes, line_text, line_told, decimal}
use Rattle.report_text.specs.declared.report_line.Line.{Line}
use Rattle.report_text.proofs.Listed.{joined, wait_joined}
use Rattle.report_text.proofs.reporter.begin.Goals as goal

pub returns-in-Cycle-clause-text : goal.returns-in-Cycle-clause-text
returns-in-Cycle-clause-text c =
    rw (c.listed.ensures.text, c.begin-in-Cycle.ensures)
    (ap (λ (text : List ℕ). text ++ 10 ∷ []) (sym (joined (codes "cycle") c.in-Cycle.members.now))
    ∙ ap (λ (line : Line). line_text (line_told line)) (sym c.in-Cycle.is))

pub returns-in-Wait-clause-text : goal.returns-in-Wait-clause-text
returns-in-Wait-clause-text c =
    rw (c.listed-in-Wait.ensures.text, c.word.ensures.value, c.numbered-in-Wait.ensures.text, c.from-in-Wait.ensures)
    (ap (λ (text : List ℕ). text ++ 10 ∷ []) (wait_joined (decimal c.in-Wait.activation) c.in-Wait.holders.now)
    ∙ ap (λ (line : Line). line_text (line_told line)) (sym c.in-Wait.is))
