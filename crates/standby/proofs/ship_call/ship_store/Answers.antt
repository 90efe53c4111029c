use Rattle.standby.proofs.Common.{rules, refl, ◌∙◌, behind}
use Rattle.standby.proofs.ShipCallLemmas.{all_kept, none_kept, not_shipped, shipped_all, shipped_part, shipped_short}
use Rattle.standby.specs.declared.shipping.Shipped.TheVariants as how
use Rattle.outside.proofs.Runs.{opens_some}
use Rattle.standby.proofs.ship_call.ship_store.Goals as goal

pub returns-in-Err : goal.returns-in-Err
returns-in-Err g c =
    let did = not_shipped g.W.Outside g.met.W.Outside.printed_now c.args.from c.args.outside.now c.open.new.outside c.in-Err.ensures.asks.asks c.in-Err.fault c.from.result c.from.ensures c.in-Err.ensures.asks.fault c.in-Err.ensures.asks.calm in
    record { did = did; only = search rules; faults = search rules }

pub returns-in-Done : goal.returns-in-Done
returns-in-Done g c =
    let did = shipped_all g.W.Outside g.met.W.Outside.printed_now c.args.from c.args.outside.now g.met.W.Outside.fewer_later c.open.new.outside c.ship.new.outside (opens_some g.W.Outside c.args.outside.now c.open.new.outside c.open.result c.open.ensures.asks.asks) c.in-Ok.store c.in-Ok.ensures.opened.shows c.in-Ok.ensures.opened.tracks c.in-Done.ensures.only
    (c.in-Done.ensures.ends.0 ∙ c.in-Ok.ensures.asks.no_fault) (all_kept how.Done c.in-Ok.store.bank.count (behind c.in-Ok.store.bank.base c.args.from) c.in-Done.ensures.not_kept.1 (λ is. cc)) c.in-Done.ensures.ships (c.in-Done.ensures.content refl) in
    record { did = did; only = search rules; faults = search rules }

pub returns-in-NotKept : goal.returns-in-NotKept
returns-in-NotKept g c =
    let did = none_kept g.W.Outside g.met.W.Outside.printed_now c.args.from c.args.outside.now g.met.W.Outside.fewer_later c.open.new.outside c.ship.new.outside (opens_some g.W.Outside c.args.outside.now c.open.new.outside c.open.result c.open.ensures.asks.asks) c.in-Ok.store c.in-Ok.ensures.opened.shows c.in-Ok.ensures.opened.tracks c.in-NotKept.ensures.only (c.in-NotKept.ensures.ends.0 ∙ c.in-Ok.ensures.asks.no_fault) c.base.result c.number.result
    (c.in-NotKept.ensures.refused refl) c.base.ensures c.number.ensures (c.in-NotKept.ensures.not_kept.0 refl) in
    record { did = did; only = search rules; faults = search rules }

pub returns-in-DiskFault : goal.returns-in-DiskFault
returns-in-DiskFault g c =
    let did = shipped_short g.W.Outside g.met.W.Outside.printed_now c.args.from c.args.outside.now g.met.W.Outside.fewer_later c.open.new.outside c.ship.new.outside (opens_some g.W.Outside c.args.outside.now c.open.new.outside c.open.result c.open.ensures.asks.asks) c.in-Ok.store c.in-Ok.ensures.opened.shows c.in-Ok.ensures.opened.tracks c.in-DiskFault.ensures.only
    (all_kept how.DiskFault c.in-Ok.store.bank.count (behind c.in-Ok.store.bank.base c.args.from) c.in-DiskFault.ensures.not_kept.1 (λ is. cc)) c.in-DiskFault.ensures.ships in
    record { did = did; only = search rules; faults = search rules }

pub returns : goal.returns
returns g c =
    let did = shipped_part g.W.Outside g.met.W.Outside.printed_now c.args.from c.args.outside.now g.met.W.Outside.fewer_later c.open.new.outside c.ship.new.outside (opens_some g.W.Outside c.args.outside.now c.open.new.outside c.open.result c.open.ensures.asks.asks) c.in-Ok.store c.in-Ok.ensures.opened.shows c.in-Ok.ensures.opened.tracks c.in-PutFault.ensures.only
    (c.in-PutFault.ensures.ends.0 ∙ c.in-Ok.ensures.asks.no_fault) (all_kept how.PutFault c.in-Ok.store.bank.count (behind c.in-Ok.store.bank.base c.args.from) c.in-PutFault.ensures.not_kept.1 (λ is. cc)) c.in-PutFault.ensures.ships in
    record { did = did; only = search rules; faults = search rules }
