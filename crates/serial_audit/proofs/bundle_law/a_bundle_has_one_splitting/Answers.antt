use Rattle.serial_audit.proofs.OneLemmas.{has_one_splitting}
use Rattle.serial_audit.proofs.bundle_law.a_bundle_has_one_splitting.Goals as goal

pub returns : goal.returns
returns c = has_one_splitting
