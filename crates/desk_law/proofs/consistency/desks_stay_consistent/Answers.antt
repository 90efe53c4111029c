use Rattle.desk_law.proofs.ConsistentLaw.{stays-consistent}
use Rattle.desk_law.proofs.consistency.desks_stay_consistent.Goals as goal

pub returns : goal.returns
returns c = stays-consistent
