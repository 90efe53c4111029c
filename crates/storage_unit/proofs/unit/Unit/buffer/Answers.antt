use Rattle.storage_unit.proofs.Common.{subst, IsOfTable, buffer_of}
use Rattle.storage_unit.proofs.unit.Unit.buffer.Goals as goal

pub returns-clause-of_table : goal.returns-clause-of_table
returns-clause-of_table c = subst (IsOfTable (buffer_of c.args.self.now)) c.args.self.now.held c.args.self.now.remembered
