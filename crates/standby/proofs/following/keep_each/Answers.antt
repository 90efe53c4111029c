use Rattle.standby.proofs.Common.{rules}
use Rattle.standby.proofs.Lemmas.{◌≡◌, ℕ, ◌+◌, ◌<◌, List, [], ◌∷◌, length, map, take, get_or, refl, sym, subst, ◌∙◌, ap, arith, Result, Ok, Err, fold-append, get_or-map, length-map, take_all, take_more, line_bytes, Header, FlatStore, Stands, Ghosts, BankView, StoreView, store_number, bank_behind, bank_with, laid_by, Steps, ShipLine, later, next, record_of, Followed, ShipRecord, nat_tests, so_far_all, so_far_more, so_far_none, so_far_stopped, goes_none, goes_on}
use Rattle.standby.proofs.TellLemmas.{later_more}
use Rattle.standby.proofs.following.keep_each.Goals as goal

-- the same step, by a number, lines and a result that are these
step_at : {W : Type 0} (G : Ghosts W) (bytes number numbered : ℕ) (store : FlatStore) (lines those : List ShipLine) (durable : StoreView) (before after : W) (result how : Result (Unit {0}) Followed)
    → number ≡ numbered → lines ≡ those → result ≡ how → Steps G bytes number store lines durable before after result → Steps G bytes numbered store those durable before after how
step_at G bytes number numbered store lines those durable before after result how same alike is steps = grind (arith, nat_tests)

-- the lines of the record at hand
lines_are : (bytes : ℕ) (records : List ShipRecord) (i : ℕ) (kept : ShipRecord) → i < length records → kept ≡ get_or records i kept → record_of bytes kept ≡ get_or (map (record_of bytes) records) i []
lines_are bytes records i kept lt is = ap (record_of bytes) is ∙ sym (get_or-map (record_of bytes) records i kept [] lt)

-- the bank with one record more
bank_more : (bank now : BankView) (all : List (List ShipLine)) (i : ℕ) → i < length all → (lines : List ShipLine) → now ≡ bank_behind bank (take i all) → lines ≡ get_or all i [] → bank_with now lines ≡ bank_behind bank (take (i + 1) all)
bank_more bank now all i lt lines is same = cc (is, same, fold-append bank_with bank (take i all) (get_or all i [] ∷ []), take_more all i [] lt)

pub loop-record-init : goal.loop-record-init
loop-record-init g c =
    let number : store_number c.args.durable.now ≡ later (store_number c.args.durable.now) 0 = omega arith in
    record {
      only = goes_none g.W.Outside c.args.outside.now;
      disk = refl;
      put = refl;
      header = refl;
      usable = c.requires.store.usable;
      number = number;
      bank = refl;
      so_far = λ store tracks stood.
          so_far_none g.W.Outside g.met.W.Outside.fewer_later g.met.W.Outside.printed_now (line_bytes c.args.durable.now.header.directory.page) (store_number c.args.durable.now) store (map (record_of (line_bytes c.args.durable.now.header.directory.page)) c.args.records.now) c.args.durable.now c.args.outside.now (sym number) tracks stood;
    }

pub loop-record-preserved : goal.loop-record-preserved
loop-record-preserved g c =
    let i = c.loop-record.record-index in
    let all = map (record_of (line_bytes c.args.durable.now.header.directory.page)) c.args.records.now in
    let lt : i < length all = omega (arith, c.loop-record-test.true, length-map c.args.records.now (record_of (line_bytes c.args.durable.now.header.directory.page))) in
    record {
      only = goes_on g.W.Outside g.met.W.Outside.fewer_later c.args.outside.now c.loop-record.outside c.keep.new.outside c.loop-record.invariant.only c.keep.ensures.goes.only;
      disk = c.in-Ok.ensures.goes.ends.0 ∙ c.loop-record.invariant.disk;
      put = c.in-Ok.ensures.goes.ends.1 ∙ c.loop-record.invariant.put;
      header = c.keep.ensures.goes.header ∙ c.loop-record.invariant.header;
      usable = c.in-Ok.ensures.usable;
      number = c.in-Ok.ensures.number ∙ ap next c.loop-record.invariant.number ∙ later_more (store_number c.args.durable.now) i;
      bank = c.in-Ok.ensures.kept ∙ bank_more c.args.durable.now.bank c.loop-record.durable.bank all i lt (record_of (line_bytes c.loop-record.durable.header.directory.page) c.record-item.result) c.loop-record.invariant.bank
          (ap (λ (header : Header). record_of (line_bytes header.directory.page) c.record-item.result) c.loop-record.invariant.header ∙ lines_are (line_bytes c.args.durable.now.header.directory.page) c.args.records.now i c.record-item.result c.loop-record-test.true c.record-item.is);
      so_far = λ store tracks stood.
          let so_far = c.loop-record.invariant.so_far store tracks stood in
          let steps = subst (λ (header : Header). Steps g.W.Outside (line_bytes header.directory.page) (store_number c.loop-record.durable) (laid_by (line_bytes c.args.durable.now.header.directory.page) store (take i all)) (record_of (line_bytes header.directory.page) c.record-item.result) c.keep.new.durable c.loop-record.outside c.keep.new.outside c.keep.result) c.loop-record.invariant.header
          (c.keep.ensures.steps (laid_by (line_bytes c.args.durable.now.header.directory.page) store (take i all)) so_far.tracks (so_far.stood ∙ ap (λ (n : ℕ). Stands n (laid_by (line_bytes c.args.durable.now.header.directory.page) store (take i all))) (sym c.loop-record.invariant.number))) in
          so_far_more g.W.Outside g.met.W.Outside.fewer_later g.met.W.Outside.printed_now (line_bytes c.args.durable.now.header.directory.page) (store_number c.args.durable.now) store all i lt c.loop-record.durable c.args.outside.now c.loop-record.outside
          c.loop-record.invariant.only.time so_far c.keep.new.durable c.keep.new.outside c.keep.ensures.goes.only.time
          (step_at g.W.Outside (line_bytes c.args.durable.now.header.directory.page) (store_number c.loop-record.durable) (later (store_number c.args.durable.now) i) (laid_by (line_bytes c.args.durable.now.header.directory.page) store (take i all)) (record_of (line_bytes c.args.durable.now.header.directory.page) c.record-item.result) (get_or all i []) c.keep.new.durable c.loop-record.outside c.keep.new.outside c.keep.result (Ok tt)
          c.loop-record.invariant.number (lines_are (line_bytes c.args.durable.now.header.directory.page) c.args.records.now i c.record-item.result c.loop-record-test.true c.record-item.is) c.in-Ok.is steps);
    }

pub returns : goal.returns
returns g c = record {
  goes = search rules;
  number = search rules;
  kept =
      let all = map (record_of (line_bytes c.args.durable.now.header.directory.page)) c.args.records.now in
      c.loop-record.invariant.bank ∙ ap (bank_behind c.args.durable.now.bank) (take_all c.loop-record.record-index all (omega (arith, c.loop-record-test.false, length-map c.args.records.now (record_of (line_bytes c.args.durable.now.header.directory.page)))));
  keeps = λ store tracks stood.
      let all = map (record_of (line_bytes c.args.durable.now.header.directory.page)) c.args.records.now in
      so_far_all g.W.Outside g.met.W.Outside.fewer_later g.met.W.Outside.printed_now (line_bytes c.args.durable.now.header.directory.page) (store_number c.args.durable.now) store all c.loop-record.record-index c.loop-record.durable c.args.outside.now c.loop-record.outside
      (omega (arith, c.loop-record-test.false, c.loop-record.auto.record-index-end, length-map c.args.records.now (record_of (line_bytes c.args.durable.now.header.directory.page)))) (c.loop-record.invariant.so_far store tracks stood);
}

pub keep-requires-clause-fitting : goal.keep-requires-clause-fitting
keep-requires-clause-fitting g c = grind arith

pub returns-in-Err : goal.returns-in-Err
returns-in-Err g c = record {
  number = search rules;
  kept = search rules;
  goes = grind (arith, goes_on g.W.Outside g.met.W.Outside.fewer_later c.args.outside.now c.loop-record.outside c.keep.new.outside c.loop-record.invariant.only c.keep.ensures.goes.only);
  keeps = λ store tracks stood.
      let i = c.loop-record.record-index in
      let all = map (record_of (line_bytes c.args.durable.now.header.directory.page)) c.args.records.now in
      let so_far = c.loop-record.invariant.so_far store tracks stood in
      let lt : i < length all = omega (arith, c.loop-record-test.true, length-map c.args.records.now (record_of (line_bytes c.args.durable.now.header.directory.page))) in
      let steps = subst (λ (header : Header). Steps g.W.Outside (line_bytes header.directory.page) (store_number c.loop-record.durable) (laid_by (line_bytes c.args.durable.now.header.directory.page) store (take i all)) (record_of (line_bytes header.directory.page) c.record-item.result) c.keep.new.durable c.loop-record.outside c.keep.new.outside c.keep.result) c.loop-record.invariant.header
      (c.keep.ensures.steps (laid_by (line_bytes c.args.durable.now.header.directory.page) store (take i all)) so_far.tracks (so_far.stood ∙ ap (λ (n : ℕ). Stands n (laid_by (line_bytes c.args.durable.now.header.directory.page) store (take i all))) (sym c.loop-record.invariant.number))) in
      so_far_stopped g.W.Outside g.met.W.Outside.fewer_later g.met.W.Outside.printed_now (line_bytes c.args.durable.now.header.directory.page) (store_number c.args.durable.now) store all i lt c.loop-record.durable c.args.outside.now c.loop-record.outside
      c.loop-record.invariant.only.time so_far c.keep.new.durable c.keep.new.outside c.keep.ensures.goes.only.time c.in-Err.why
      (step_at g.W.Outside (line_bytes c.args.durable.now.header.directory.page) (store_number c.loop-record.durable) (later (store_number c.args.durable.now) i) (laid_by (line_bytes c.args.durable.now.header.directory.page) store (take i all)) (record_of (line_bytes c.args.durable.now.header.directory.page) c.record-item.result) (get_or all i []) c.keep.new.durable c.loop-record.outside c.keep.new.outside c.keep.result (Err c.in-Err.why)
      c.loop-record.invariant.number (lines_are (line_bytes c.args.durable.now.header.directory.page) c.args.records.now i c.record-item.result c.loop-record-test.true c.record-item.is) c.in-Err.is steps);
}
