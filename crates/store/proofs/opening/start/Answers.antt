use Rattle.store.proofs.Lemmas.{arith, common_steps, sure_on, asks_on, opened_once}
use Rattle.store.proofs.opening.start.Goals as goal

pub returns-in-Ok-read_header-clause-sure : goal.returns-in-Ok-read_header-clause-sure
returns-in-Ok-read_header-clause-sure g c honest told = sure_on g.W.Outside g.met.W.Outside.fewer_later c.synced.new.outside c.read_header.new.outside (c.in-Ok.ensures.sure honest told) c.read_header.ensures.asks.asks

pub returns-in-Ok-read_header-clause-asks : goal.returns-in-Ok-read_header-clause-asks
returns-in-Ok-read_header-clause-asks g c = record {
  asks = asks_on g.W.Outside g.met.W.Outside.fewer_later c.args.outside.now c.synced.new.outside c.read_header.new.outside c.in-Ok.ensures.asks c.read_header.ensures.asks.asks;
  no_fault = grind (arith, common_steps);
  fault = grind (arith, common_steps);
  calm = grind (arith, common_steps);
}

pub returns-in-Err-DiskFault-clause-asks : goal.returns-in-Err-DiskFault-clause-asks
returns-in-Err-DiskFault-clause-asks g c = record {
  asks = opened_once g.W.Outside g.met.W.Outside.fewer_later c.args.outside.now c.synced.new.outside c.read_header.new.outside c.in-Ok.ensures.asks c.read_header.ensures.asks.asks;
  no_fault = grind (arith, common_steps);
  fault = grind (arith, common_steps);
  calm = grind (arith, common_steps);
}

pub returns-in-Err-NotAStore-clause-asks : goal.returns-in-Err-NotAStore-clause-asks
returns-in-Err-NotAStore-clause-asks g c = record {
  asks = opened_once g.W.Outside g.met.W.Outside.fewer_later c.args.outside.now c.synced.new.outside c.read_header.new.outside c.in-Ok.ensures.asks c.read_header.ensures.asks.asks;
  no_fault = grind (arith, common_steps);
  fault = grind (arith, common_steps);
  calm = grind (arith, common_steps);
}
