use Rattle.session.proofs.Lemmas.{isolated}
use Rattle.session.proofs.shown_laws.shown_desks_are_isolated.Goals as goal

pub returns : goal.returns
returns c = isolated
