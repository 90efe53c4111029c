use Rattle.store.proofs.Common.{common_steps, asks_on, arith}
use Rattle.store.proofs.checkpoint.Banks.open.Goals as goal

pub returns-in-Ok-open : goal.returns-in-Ok-open
returns-in-Ok-open g c = grind (arith, common_steps, asks_on g.W.Outside g.met.W.Outside.fewer_later c.args.outside.now c.read_selector.new.outside c.open.new.outside c.read_selector.ensures.asks c.open.ensures.asks.asks)

pub returns-in-Err-open-clause-asks : goal.returns-in-Err-open-clause-asks
returns-in-Err-open-clause-asks g c = grind (arith, common_steps, asks_on g.W.Outside g.met.W.Outside.fewer_later c.args.outside.now c.read_selector.new.outside c.open.new.outside c.read_selector.ensures.asks c.open.ensures.asks.asks)
