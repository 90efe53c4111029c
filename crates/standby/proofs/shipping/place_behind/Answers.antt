use Rattle.standby.proofs.Common.{rules}
use Rattle.standby.proofs.Lemmas.{⊎_elim, ◌+◌, ◌<◌, List, [], get_or, length, take, refl, sym, ◌∙◌, ap, arith, RecordLine, held_of, asks_none, asks_on, area_bytes, area_more, next_is, record_there, still_shown}
use Rattle.standby.proofs.shipping.place_behind.Goals as goal

pub loop-index-init : goal.loop-index-init
loop-index-init g c = record { asks = asks_none g.W.Outside c.args.outside.now; no_fault = refl; inside = c.requires.some; place = λ shown. refl }

pub loop-index-preserved : goal.loop-index-preserved
loop-index-preserved g c = record {
  asks = asks_on g.W.Outside g.met.W.Outside.fewer_later c.args.outside.now c.loop-index.outside c.record_at.new.outside c.loop-index.invariant.asks c.record_at.ensures.asks;
  no_fault = c.in-Ok.ensures.cause.done ∙ c.loop-index.invariant.no_fault;
  inside = ⊎_elim (λ none. omega (arith, none.1, c.requires.some)) (λ some. some.1) c.in-Ok.ensures.found.fits;
  place = λ shown.
      let still = still_shown g.W.Outside c.args.durable.now c.args.outside.now c.loop-index.outside shown c.loop-index.invariant.asks.held in
      let read = still.0.shows.read in
      let lt : c.loop-index._index < length read.records = omega (arith, read.count, c.requires.passed, c.loop-index-test.true) in
      let at = record_there (held_of g.W.Outside c.loop-index.outside) c.args.durable.now.bank c.loop-index.place read c.loop-index._index lt
      (c.loop-index.invariant.place shown ∙ ap (λ (records : List (List RecordLine)). area_bytes c.args.durable.now.bank.page (take c.loop-index._index records)) (sym still.1)) in
      let counted = c.in-Ok.ensures.read still.0.told at.0 in let before = c.loop-index.invariant.place shown in
      let same = ap (λ (records : List (List RecordLine)). area_bytes c.args.durable.now.bank.page (take (c.loop-index._index + 1) records)) still.1 in
      let was = ap (λ (records : List (List RecordLine)). area_bytes c.args.durable.now.bank.page (take c.loop-index._index records)) still.1 in
      omega (arith, next_is c.args.durable.now.header.directory.page c.args.durable.now.bank.page c.loop-index.place at.0.lines (get_or read.records c.loop-index._index []) c.in-Ok.record still.0.shows.fits.page at.1 counted, before, same, was, area_more c.args.durable.now.bank.page read.records c.loop-index._index lt);
}

pub returns : goal.returns
returns g c = record {
  asks = search rules;
  only = search rules;
  cause = search rules;
  inside = search rules;
  place = λ shown. grind (arith, c.loop-index-test.false, c.loop-index.auto._index-end, c.loop-index.invariant.place shown);
}
