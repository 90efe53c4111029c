use Rattle.standby.proofs.Common.{◌≡◌, inl, inr, length, refl, sym, ap, subst, arith, length-map, elapses-trans, OnlyOpens, ship_content, later, record_of}
use Rattle.standby.proofs.FollowCallLemmas.{followed_disk, followed_done, followed_put, not_opened}
use Rattle.outside.proofs.Runs.{opens_some}
use Rattle.standby.proofs.follow_call.follow_text.Goals as goal

pub returns-in-Err-clause-on : goal.returns-in-Err-clause-on
returns-in-Err-clause-on g c =
    not_opened g.W.Outside g.met.W.Outside.fewer_later g.met.W.Outside.printed_now (ship_content c.args.ship.now) c.args.outside.now c.open.new.outside c.in-Err.ensures.asks.asks c.in-Err.fault c.from.result c.from.ensures c.in-Err.ensures.asks.fault

pub returns-in-Done-clause-on : goal.returns-in-Done-clause-on
returns-in-Done-clause-on g c = (
  λ told. record { store = c.in-Ok.store; shows = c.in-Ok.ensures.opened.shows told; due_on = c.in-Done.ensures.found },
  followed_done g.W.Outside g.met.W.Outside.fewer_later g.met.W.Outside.printed_now (ship_content c.args.ship.now) c.args.outside.now c.open.new.outside (opens_some g.W.Outside c.args.outside.now c.open.new.outside c.open.result c.open.ensures.asks.asks)
      c.in-Ok.store c.follow.new.durable c.in-Ok.ensures.opened.shows c.in-Ok.ensures.opened.tracks c.in-Ok.ensures.asks.asks.deeds c.follow.new.outside c.in-Done.ensures.only.time
      c.requires.content.number c.in-Done.ensures.found.1 c.in-Done.ensures.header (c.in-Done.ensures.kept refl) c.in-Done.ensures.follows,
)

pub returns-in-Done-clause-time : goal.returns-in-Done-clause-time
returns-in-Done-clause-time g c =
    elapses-trans g.W.Outside g.met.W.Outside.fewer_later c.args.outside.now c.open.new.outside c.follow.new.outside c.in-Ok.ensures.asks.asks.calls.time c.in-Done.ensures.only.time

pub returns-in-NotKept-clause-on : goal.returns-in-NotKept-clause-on
returns-in-NotKept-clause-on g c =
    let many : c.len.result ≡ length (ship_content c.args.ship.now).records = omega (arith, c.len.ensures, length-map c.args.ship.now.records.items (record_of c.args.ship.now.line_bytes)) in
    let found = c.in-NotKept.ensures.found in
    λ told. record { store = c.in-Ok.store; shows = c.in-Ok.ensures.opened.shows told; due_on = (refl, ap (later c.args.ship.now.start) many, found.0, found.1) }

pub returns-in-Long-clause-on : goal.returns-in-Long-clause-on
returns-in-Long-clause-on g c =
    let found = c.in-Long.ensures.found in
    (inr refl, λ told. record { store = c.in-Ok.store; shows = c.in-Ok.ensures.opened.shows told; due_on = inr (refl, found.0, found.1, found.2) })

pub returns-in-Geometry-clause-refused : goal.returns-in-Geometry-clause-refused
returns-in-Geometry-clause-refused g c refusal =
    let refused = c.in-Geometry.ensures.refused (inl refl) in
    subst (OnlyOpens g.W.Outside c.args.outside.now) (sym refused.1) (opens_some g.W.Outside c.args.outside.now c.open.new.outside c.open.result c.open.ensures.asks.asks)

pub returns-in-NotKept-clause-refused : goal.returns-in-NotKept-clause-refused
returns-in-NotKept-clause-refused g c refusal =
    let refused = c.in-NotKept.ensures.refused (inr (inl refl)) in
    subst (OnlyOpens g.W.Outside c.args.outside.now) (sym refused.1) (opens_some g.W.Outside c.args.outside.now c.open.new.outside c.open.result c.open.ensures.asks.asks)

pub returns-in-Long-clause-refused : goal.returns-in-Long-clause-refused
returns-in-Long-clause-refused g c refusal =
    let refused = c.in-Long.ensures.refused (inr (inr (c.in-Long.number, refl))) in
    subst (OnlyOpens g.W.Outside c.args.outside.now) (sym refused.1) (opens_some g.W.Outside c.args.outside.now c.open.new.outside c.open.result c.open.ensures.asks.asks)

pub returns-in-Long-clause-time : goal.returns-in-Long-clause-time
returns-in-Long-clause-time g c =
    elapses-trans g.W.Outside g.met.W.Outside.fewer_later c.args.outside.now c.open.new.outside c.follow.new.outside c.in-Ok.ensures.asks.asks.calls.time c.in-Long.ensures.only.time

pub returns-in-DiskFault-clause-on : goal.returns-in-DiskFault-clause-on
returns-in-DiskFault-clause-on g c = (
  inr (λ told. record { store = c.in-Ok.store; shows = c.in-Ok.ensures.opened.shows told; due_on = c.in-DiskFault.ensures.found }),
  followed_disk g.W.Outside g.met.W.Outside.fewer_later g.met.W.Outside.printed_now (ship_content c.args.ship.now) c.args.outside.now c.open.new.outside (opens_some g.W.Outside c.args.outside.now c.open.new.outside c.open.result c.open.ensures.asks.asks)
      c.in-Ok.store c.follow.new.durable c.in-Ok.ensures.opened.shows c.in-Ok.ensures.opened.tracks c.in-Ok.ensures.asks.asks.deeds c.follow.new.outside c.in-DiskFault.ensures.only.time c.in-DiskFault.ensures.follows,
)

pub returns-in-DiskFault-clause-time : goal.returns-in-DiskFault-clause-time
returns-in-DiskFault-clause-time g c =
    elapses-trans g.W.Outside g.met.W.Outside.fewer_later c.args.outside.now c.open.new.outside c.follow.new.outside c.in-Ok.ensures.asks.asks.calls.time c.in-DiskFault.ensures.only.time

pub returns-clause-on : goal.returns-clause-on
returns-clause-on g c = (
  λ told. record { store = c.in-Ok.store; shows = c.in-Ok.ensures.opened.shows told; due_on = c.in-PutFault.ensures.found },
  followed_put g.W.Outside g.met.W.Outside.fewer_later g.met.W.Outside.printed_now (ship_content c.args.ship.now) c.args.outside.now c.open.new.outside (opens_some g.W.Outside c.args.outside.now c.open.new.outside c.open.result c.open.ensures.asks.asks)
      c.in-Ok.store c.follow.new.durable c.in-Ok.ensures.opened.shows c.in-Ok.ensures.opened.tracks c.in-Ok.ensures.asks.asks.deeds c.follow.new.outside c.in-PutFault.ensures.only.time c.in-PutFault.ensures.follows,
)

pub returns-clause-time : goal.returns-clause-time
returns-clause-time g c =
    elapses-trans g.W.Outside g.met.W.Outside.fewer_later c.args.outside.now c.open.new.outside c.follow.new.outside c.in-Ok.ensures.asks.asks.calls.time c.in-PutFault.ensures.only.time
