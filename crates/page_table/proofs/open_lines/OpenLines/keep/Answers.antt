use Rattle.page_table.proofs.Common.{get_or-set_other, get_or-set_same, nat_tests}
use Rattle.page_table.proofs.Common.{arith, common_steps}
use Rattle.page_table.specs.KnownLines.{known}
use Rattle.page_table.proofs.open_lines.OpenLines.keep.Goals as goal

pub returns : goal.returns
unfolding known
returns c store at = grind (arith, common_steps, nat_tests, get_or-set_same, get_or-set_other, c.begin_again.ensures.known store at)
