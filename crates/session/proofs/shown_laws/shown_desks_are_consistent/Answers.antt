use Rattle.session.proofs.Lemmas.{consistent}
use Rattle.session.proofs.shown_laws.shown_desks_are_consistent.Goals as goal

pub returns : goal.returns
returns c = consistent
