use Rattle.lines.proofs.Common.{sym, ◌∙◌, nat_tests, arith}
use Rattle.lines.proofs.LineSetLemmas.{no_bits, first-bits}
use Rattle.lines.proofs.line_set.LineSet.pop_first.Goals as goal

pub returns-then-self-eq0 : goal.returns-then-self-eq0
returns-then-self-eq0 c = grind (arith, nat_tests, no_bits)

pub returns : goal.returns
returns c = sym c.self.view_is ∙ first-bits c.self.inside.0 c.if-self-eq0.false c.self.invariant
