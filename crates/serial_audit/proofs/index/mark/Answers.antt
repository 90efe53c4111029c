use Rattle.serial_audit.proofs.Lemmas.{none_marked}
use Rattle.serial_audit.proofs.index.mark.Goals as goal

pub returns-in-None : goal.returns-in-None
returns-in-None c = none_marked c.args.entries.now c.args.activation c.in-None.ensures
