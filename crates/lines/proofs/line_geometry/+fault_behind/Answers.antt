use Rattle.lines.proofs.Common.{arith, common_steps}
use Rattle.lines.proofs.line_geometry.+fault_behind.Goals as goal

pub returns-else-pages-first-gt1024 : goal.returns-else-pages-first-gt1024
returns-else-pages-first-gt1024 t c = grind (arith, common_steps)
