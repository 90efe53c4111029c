use Rattle.lines.proofs.Common.{arith, common_steps}
use Rattle.lines.proofs.line_geometry.+start_among.Goals as goal

pub overflow_add-result : goal.overflow_add-result
overflow_add-result t c = grind (arith, common_steps)

pub start_among-requires : goal.start_among-requires
start_among-requires t c = grind (arith, common_steps)

pub returns-else-first-segment-clause-value : goal.returns-else-first-segment-clause-value
returns-else-first-segment-clause-value t c = grind (arith, common_steps)

pub returns-else-first-segment-clause-before : goal.returns-else-first-segment-clause-before
returns-else-first-segment-clause-before t c = grind (arith, common_steps)

pub returns-else-first-segment-clause-within : goal.returns-else-first-segment-clause-within
returns-else-first-segment-clause-within t c = grind (arith, common_steps)

pub returns-then-first-segment-clause-within : goal.returns-then-first-segment-clause-within
returns-then-first-segment-clause-within t c = grind (arith, common_steps)
