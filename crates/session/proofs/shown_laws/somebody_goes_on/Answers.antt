use Rattle.session.proofs.Lemmas.{consistent}
use Rattle.desk_law.proofs.SomebodyGoesOn.{somebody-can-go-on}
use Rattle.session.proofs.shown_laws.somebody_goes_on.Goals as goal

pub returns : goal.returns
returns c = λ s held desk entry shown here. somebody-can-go-on desk entry (consistent s held desk shown) here
