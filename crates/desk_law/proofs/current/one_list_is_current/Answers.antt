use Rattle.desk_law.proofs.CurrentLaw.{one-list-is-current}
use Rattle.desk_law.proofs.current.one_list_is_current.Goals as goal

pub returns : goal.returns
returns c = one-list-is-current
