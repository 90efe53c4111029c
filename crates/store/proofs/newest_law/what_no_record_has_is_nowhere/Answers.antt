use Rattle.store.proofs.Lemmas.{newest_law}
use Rattle.store.proofs.newest_law.what_no_record_has_is_nowhere.Goals as goal

pub returns : goal.returns
returns c = newest_law
