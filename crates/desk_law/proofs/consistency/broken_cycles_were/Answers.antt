use Rattle.desk_law.proofs.CyclesBroken.{broken-cycles-were}
use Rattle.desk_law.proofs.consistency.broken_cycles_were.Goals as goal

pub returns : goal.returns
returns c = broken-cycles-were
