use Rattle.storage_unit.proofs.Lemmas.{arith, ready-with}
use Rattle.storage_unit.proofs.storage.UnitStorage.prepare.Goals as goal

pub invariant_of-self-clause-ready : goal.invariant_of-self-clause-ready
invariant_of-self-clause-ready c =
    let unit = c.args.self.now in
    ready-with unit.rows c.keep.new.self unit.pool.bytes unit.runner c.args.address c.in-Some.row (omega (arith, c.if-self-eq0.false)) c.in-Some.ensures.within c.in-Some.ensures.row c.keep.ensures unit.ready
