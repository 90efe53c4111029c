use Rattle.store_format.proofs.Common.{common_steps, arith}
use Rattle.store_format.proofs.header.Header.write_header.Goals as goal

pub returns-clause-ranges : goal.returns-clause-ranges
returns-clause-ranges c = grind (arith, common_steps)

pub returns-clause-legal : goal.returns-clause-legal
returns-clause-legal c = grind (arith, common_steps)

pub add_zeros-requires : goal.add_zeros-requires
add_zeros-requires c = grind (arith, common_steps)

pub overflow_cast-segments : goal.overflow_cast-segments
overflow_cast-segments c = grind (arith, common_steps)
