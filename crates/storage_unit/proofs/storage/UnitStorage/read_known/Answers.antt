use Rattle.storage_unit.proofs.storage.UnitStorage.read_known.Goals as goal

pub returns-in-2-clause-registers : goal.returns-in-2-clause-registers
returns-in-2-clause-registers c = rw c.in-2.is c.fill_known-in-2.ensures.filled
