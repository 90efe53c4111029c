use Rattle.desk_law.proofs.TurnCauses.{turns-end-for-cause}
use Rattle.desk_law.proofs.causes.turns_end_for_cause.Goals as goal

pub returns : goal.returns
returns c = turns-end-for-cause
