use Rattle.desk_law.proofs.ConsistentLaw.{runs-consistent}
use Rattle.desk_law.proofs.consistency.runs_stay_consistent.Goals as goal

pub returns : goal.returns
returns c = runs-consistent
