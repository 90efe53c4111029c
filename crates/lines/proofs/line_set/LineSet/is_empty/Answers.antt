use Rattle.lines.proofs.Common.{◌==◌, ℕ, length, List, ◌∙◌, ap, is_on}
use Rattle.lines.proofs.LineSetLemmas.{none-bits, of_page_where}
use Rattle.lines.proofs.line_set.LineSet.is_empty.Goals as goal

pub returns-clause-value : goal.returns-clause-value
returns-clause-value c = none-bits c.self.inside.0 c.self.invariant ∙ ap (λ (set : List ℕ). length set == 0) c.self.view_is

pub returns-clause-of_page : goal.returns-clause-of_page
returns-clause-of_page c = rw c.self.view_is at (of_page_where (is_on c.self.inside.0))
