use Rattle.page_table.proofs.Common.{arith, nat_tests}
use Rattle.std.proofs.lemmas.Nat.{and_mask}
use Rattle.page_table.proofs.chain.hash.Goals as goal

pub returns-clause-value : goal.returns-clause-value
returns-clause-value c = grind (arith, nat_tests, and_mask)
