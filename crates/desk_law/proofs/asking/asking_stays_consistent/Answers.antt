use Rattle.desk_law.proofs.AskingLaw.{asking_consistent}
use Rattle.desk_law.proofs.asking.asking_stays_consistent.Goals as goal

pub returns : goal.returns
returns c = asking_consistent
