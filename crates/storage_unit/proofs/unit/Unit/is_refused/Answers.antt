use Rattle.storage_unit.proofs.Lemmas.{arith, nat_tests, page-of-line, page-below}
use Rattle.storage_unit.proofs.unit.Unit.is_refused.Goals as goal

pub authority-requires : goal.authority-requires
authority-requires c = grind (arith, nat_tests, page-below)

pub returns : goal.returns
returns c = grind (arith, nat_tests, page-of-line)
