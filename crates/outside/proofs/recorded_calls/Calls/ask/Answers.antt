use Rattle.outside.proofs.Lemmas.{nat_tests, arith, length-append, calls_of-asked, asked-le}
use Rattle.outside.proofs.recorded_calls.Calls.ask.Goals as goal

pub overflow_add-self : goal.overflow_add-self
overflow_add-self c = grind (arith, nat_tests, asked-le, c.args.self.now)

pub invariant_of-self : goal.invariant_of-self
invariant_of-self c = grind (arith, nat_tests, calls_of-asked, length-append, c.args.self.now)

pub returns-clause-made : goal.returns-clause-made
returns-clause-made c = calls_of-asked c.args.self.now.runs.items c.args.self.now.asked
