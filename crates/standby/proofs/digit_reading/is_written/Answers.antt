use Rattle.standby.proofs.Common.{elements, arith}
use Rattle.standby.proofs.digit_reading.is_written.Goals as goal

pub returns-clause-small : goal.returns-clause-small
returns-clause-small c = grind (arith, elements)

pub returns-in_err-written-clause-small : goal.returns-in_err-written-clause-small
returns-in_err-written-clause-small c = grind (arith, elements)
