use Rattle.store.proofs.Lemmas.{common_steps, asks_on, arith}
use Rattle.store.proofs.checkpoint.Banks.reopen.Goals as goal

pub returns-in-Ok-clause-intact : goal.returns-in-Ok-clause-intact
returns-in-Ok-clause-intact g c = grind arith

pub returns-in-Ok-clause-asks : goal.returns-in-Ok-clause-asks
returns-in-Ok-clause-asks g c = grind (arith, common_steps, asks_on g.W.Outside g.met.W.Outside.fewer_later c.args.outside.now c.read_selector.new.outside c.reopen.new.outside c.read_selector.ensures.asks c.reopen.ensures.asks.asks)
