use Rattle.store.proofs.Lemmas.{once}
use Rattle.store.proofs.keep.write_once.Goals as goal

pub returns : goal.returns
returns g c = once g.W.Outside c.args.at c.args.bytes.now c.args.outside.now c.write_at.new.self c.write_at.result c.write_at.ensures.written c.write_at.ensures.writes c.write_at.ensures.call c.write_at.ensures.crash c.write_at.ensures.counts c.write_at.ensures.deeds
