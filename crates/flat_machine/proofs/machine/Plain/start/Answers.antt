-- The copied bytes are those of the store.
use Rattle.flat_machine.proofs.Common.{sym, ◌∙◌}
use Rattle.flat_machine.proofs.machine.Plain.start.Goals as goal

pub returns : goal.returns
returns c = rw (sym c.in_ok-from_slice.ensures.items ∙ sym c.from_vec-copied.ensures) c.start_on.ensures
