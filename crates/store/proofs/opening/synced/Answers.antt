use Rattle.store.proofs.Lemmas.{asks_one, synced_sure, on_ok_weaker}
use Rattle.store.specs.Below.{SyncsBy}
use Rattle.store.proofs.opening.synced.Goals as goal

pub returns-clause-asks : goal.returns-clause-asks
returns-clause-asks g c = asks_one g.W.Outside c.args.outside.now c.sync.new.self c.sync.ensures.asks c.sync.result c.sync.ensures.counts c.sync.ensures.deeds

pub returns-clause-sure : goal.returns-clause-sure
returns-clause-sure g c =
    let G = g.W.Outside in
    let asks = asks_one G {D = SyncsBy c.sync.result} c.args.outside.now c.sync.new.self c.sync.ensures.asks c.sync.result c.sync.ensures.counts c.sync.ensures.deeds in
    on_ok_weaker c.sync.result (λ durable honest told. synced_sure G c.args.outside.now c.sync.new.self asks honest told (durable honest)) c.sync.ensures.durable
