use Rattle.desk_law.proofs.ConsistentLaw.{idle-where-inactive}
use Rattle.desk_law.proofs.consistency.idle_where_inactive.Goals as goal

pub returns : goal.returns
returns c = idle-where-inactive
