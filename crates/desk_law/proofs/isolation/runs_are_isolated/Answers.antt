use Rattle.desk_law.proofs.MemoryLaw.{runs-are-isolated}
use Rattle.desk_law.proofs.isolation.runs_are_isolated.Goals as goal

pub returns : goal.returns
returns c = runs-are-isolated
