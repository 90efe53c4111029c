use Rattle.romp_table.proofs.Common.{elements, arith}
use Rattle.romp_table.proofs.bits.row_in.Goals as goal

pub returns : goal.returns
returns c = grind (arith, elements)

pub returns-in_err-row : goal.returns-in_err-row
returns-in_err-row c = grind (arith, elements)
