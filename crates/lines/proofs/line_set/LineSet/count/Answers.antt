use Rattle.lines.proofs.Common.{ℕ, length, List, ◌∙◌, ap, arith, is_on}
use Rattle.lines.proofs.LineSetLemmas.{count-bits, few-lines, of_page_where}
use Rattle.lines.proofs.line_set.LineSet.count.Goals as goal

pub returns-clause-value : goal.returns-clause-value
returns-clause-value c = count-bits c.self.inside.0 c.self.invariant ∙ ap (λ (set : List ℕ). length set) c.self.view_is

pub returns-clause-small : goal.returns-clause-small
returns-clause-small c = omega (arith, count-bits c.self.inside.0 c.self.invariant, few-lines (is_on c.self.inside.0))

pub returns-clause-of_page : goal.returns-clause-of_page
returns-clause-of_page c = rw c.self.view_is at (of_page_where (is_on c.self.inside.0))
