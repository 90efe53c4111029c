use Rattle.flat_machine.proofs.effects.effect.Goals as goal

pub returns-in-X : goal.returns-in-X
returns-in-X c = rw c.in-X.is (c.do_x.ensures c.args.cs.now)
