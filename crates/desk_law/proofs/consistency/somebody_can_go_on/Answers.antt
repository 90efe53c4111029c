use Rattle.desk_law.proofs.SomebodyGoesOn.{somebody-can-go-on}
use Rattle.desk_law.proofs.consistency.somebody_can_go_on.Goals as goal

pub returns : goal.returns
returns c = somebody-can-go-on
