use Rattle.lines.proofs.Common.{shr_and_one, is_on, nat_tests, arith}
use Rattle.lines.proofs.LineSetLemmas.{is_in_where-below, of_page_where}
use Rattle.lines.proofs.line_set.LineSet.contains.Goals as goal

pub returns-clause-value : goal.returns-clause-value
returns-clause-value c = grind (arith, nat_tests, shr_and_one c.self.inside.0 c.args.line, is_in_where-below (is_on c.self.inside.0) c.args.line c.requires)

pub returns-clause-of_page : goal.returns-clause-of_page
returns-clause-of_page c = rw c.self.view_is at (of_page_where (is_on c.self.inside.0))
