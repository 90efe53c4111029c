use Rattle.store.proofs.Common.{common_steps, arith}
use Rattle.store.proofs.selector.read_selector.Goals as goal

pub returns-else-selector-eq1 : goal.returns-else-selector-eq1
returns-else-selector-eq1 g c = grind (arith, common_steps)

pub returns-then-selector-eq1 : goal.returns-then-selector-eq1
returns-then-selector-eq1 g c = grind (arith, common_steps)
