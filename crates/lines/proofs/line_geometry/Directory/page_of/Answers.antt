use Rattle.lines.proofs.Common.{arith, lt_of_lt_of_le, nat_tests}
use Rattle.lines.proofs.LegalLemmas.{legal_bytes}
use Rattle.lines.proofs.line_geometry.Directory.page_of.Goals as goal

pub overflow_cast-result : goal.overflow_cast-result
overflow_cast-result c = grind (arith, nat_tests, lt_of_lt_of_le, legal_bytes)

pub overflow_cast-result-in-Four : goal.overflow_cast-result-in-Four
overflow_cast-result-in-Four c = grind (arith, nat_tests, lt_of_lt_of_le, legal_bytes)
