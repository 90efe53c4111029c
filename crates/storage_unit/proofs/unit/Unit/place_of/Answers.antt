use Rattle.storage_unit.proofs.Common.{arith, common_steps}
use Rattle.storage_unit.proofs.unit.Unit.place_of.Goals as goal

pub overflow_add-result : goal.overflow_add-result
overflow_add-result c = grind (arith, common_steps)
