use Rattle.storage_unit.proofs.unit.Unit.translate.Goals as goal

pub invariant_of-self-clause-remembered : goal.invariant_of-self-clause-remembered
invariant_of-self-clause-remembered c = c.find.ensures.kept c.args.self.now.remembered
