use Rattle.store_format.proofs.Lemmas.{has_bank, one_held, refl}
use Rattle.store_format.proofs.computed_law.what_is_computed_is_held.Goals as goal

pub returns-clause-computed : goal.returns-clause-computed
returns-clause-computed c image page bound at bank_bytes = has_bank image page bound at bank_bytes _ refl

pub returns-clause-one : goal.returns-clause-one
returns-clause-one c image area number gate one other first second = one_held first second
