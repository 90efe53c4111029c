use Rattle.store.proofs.Lemmas.{shown_stands}
use Rattle.store.proofs.shown_law.what_is_shown_stands.Goals as goal

pub returns : goal.returns
returns c = shown_stands
