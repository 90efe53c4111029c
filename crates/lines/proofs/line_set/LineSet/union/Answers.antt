use Rattle.lines.proofs.Common.{arith, nat_tests}
use Rattle.lines.proofs.LineSetLemmas.{union_bits}
use Rattle.lines.proofs.line_set.LineSet.union.Goals as goal

pub returns : goal.returns
returns c = grind (arith, nat_tests, union_bits)
