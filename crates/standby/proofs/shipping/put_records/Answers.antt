use Rattle.standby.proofs.Common.{rules}
use Rattle.standby.proofs.Lemmas.{◌≡◌, ⊎_elim, ℕ, ◌+◌, ◌-◌, ◌<◌, List, [], ◌++◌, length, map, take, drop, get_or, refl, sym, subst, ◌∙◌, ap, arith, get_or-drop, length-drop, length-map, take-append-drop, take_all, line_bytes, RecordLine, Prints, prints_on, prints_same, prints_stop, prints_none, prints_unput, HasBytes, Ok, ShipPrintsBy, broken, later, record_text, records_text, told, shows_asks, shows_none, shows_on, held_of, IsCounted, IsRecordAt, area_bytes, IsShown, All, ◌%◌, ◌^◌, ◌≤◌, Option, nat_tests, prints_by, quiet_by, all_more, area_more, later_later, next_is, records_more, records_rest, records_split, there_in}
use Rattle.standby.proofs.shipping.put_records.Given.{Over}
use Rattle.standby.proofs.shipping.put_records.Goals as goal
use Rattle.standby.proofs.shipping.put_records.Goals.{In-Ok}

pub loop-index-init : goal.loop-index-init
loop-index-init g c =
    let none : c.args.passed - c.args.passed ≡ 0 = omega arith in
    record {
      only = shows_none g.W.Outside c.args.outside.now;
      disk = refl;
      put = refl;
      inside = c.requires.inside;
      place = λ shown is. is;
      so_far = λ shown is.
          subst (λ (n : ℕ). ShipPrintsBy {T = Unit {0}} g.W.Outside (records_text (later c.args.durable.now.bank.base c.args.passed) (take n (map told (drop c.args.passed shown.shows.read.records)))) c.args.outside.now c.args.outside.now (Ok tt)) (sym none)
          (prints_none (g.W.Outside.printed c.args.outside.now) tt, λ told. omega arith);
      bytes = λ shown is. subst (λ (n : ℕ). All (λ lines. All (HasBytes (line_bytes c.args.durable.now.header.directory.page)) lines) (take n (drop c.args.passed shown.shows.read.records))) (sym none) (λ k d lt. absurd (omega (arith, lt)));
    }

-- the number of the record at hand
number_is : (base passed index number : ℕ) → passed ≤ index → number ≡ later base (index + 1) → number ≡ later (later base passed) (index - passed + 1)
number_is base passed index number le is = grind (arith, nat_tests, later_later)

-- the record at hand among those behind so many
lines_at : (records : List (List RecordLine)) (passed index : ℕ) → passed ≤ index → get_or records index [] ≡ get_or (drop passed records) (index - passed) []
lines_at records passed index le = grind (arith, nat_tests, get_or-drop)

-- the text of the records so far is a first part of that of all
part_of : (number : ℕ) (records : List (List RecordLine)) (i : ℕ) → (rest : List ℕ) × (records_text number (take i (map told records)) ++ rest ≡ records_text number (map told records))
part_of number records i = grind (arith, records_split number (take i (map told records)) (drop i (map told records)), take-append-drop i (map told records))

within : (g : Over) (c : goal.In-Ok g) (shown : IsShown g.W.Outside c.args.durable.now c.args.outside.now) → c.loop-index.index < length shown.shows.read.records
within g c shown = omega (arith, shown.shows.read.count, c.loop-index-test.true, c.records-index-end.ensures)

-- where the record at hand lay before it was read
lay : (g : Over) (c : goal.In-Ok g) (shown : IsShown g.W.Outside c.args.durable.now c.args.outside.now) → c.loop-index.place ≡ area_bytes c.args.durable.now.bank.page (take c.loop-index.index shown.shows.read.records)
    → (at : IsRecordAt (held_of g.W.Outside c.loop-index.outside) c.args.durable.now.bank c.loop-index.place) × ((at.lines ≡ get_or shown.shows.read.records c.loop-index.index []) × IsCounted c.args.durable.now.header.directory.page c.loop-index.place at.lines c.in-Ok.record)
lay g c shown place =
    let first = there_in g.W.Outside c.args.durable.now c.args.outside.now c.loop-index.outside shown c.loop-index.index c.loop-index.place c.loop-index.invariant.only.held (within g c shown) place in
    (first.1.0, (first.1.1, c.in-Ok.ensures.read first.0.told first.1.0))

-- and where it lies after that
lies : (g : Over) (c : goal.In-Ok g) (shown : IsShown g.W.Outside c.args.durable.now c.args.outside.now) → c.loop-index.place ≡ area_bytes c.args.durable.now.bank.page (take c.loop-index.index shown.shows.read.records)
    → (still : IsShown g.W.Outside c.args.durable.now c.record_at.new.outside)
    × ((at : IsRecordAt (held_of g.W.Outside c.record_at.new.outside) c.args.durable.now.bank c.in-Ok.record.place) × ((at.lines ≡ get_or shown.shows.read.records c.loop-index.index []) × (c.in-Ok.record.count ≡ length at.lines)))
lies g c shown place =
    let first = lay g c shown place in
    let at = there_in g.W.Outside c.args.durable.now c.args.outside.now c.record_at.new.outside shown c.loop-index.index c.in-Ok.record.place (c.record_at.ensures.asks.held ∙ c.loop-index.invariant.only.held) (within g c shown) (c.in-Ok.ensures.found.place_is ∙ place) in
    (at.0, (at.1.0, (at.1.1, first.1.1.count ∙ ap (λ (lines : List RecordLine). length lines) (first.1.0 ∙ sym at.1.1))))

-- the text of the record at hand is that of its place among those behind so many
text_is : (base passed index number : ℕ) (records : List (List RecordLine)) (lines : List RecordLine) → passed ≤ index → number ≡ later base (index + 1) → lines ≡ get_or records index []
    → record_text number (told lines) ≡ record_text (later (later base passed) (index - passed + 1)) (told (get_or (drop passed records) (index - passed) []))
text_is base passed index number records lines le is same = grind (arith, nat_tests, lines_at, number_is)

pub returns-in-Err-put_record : goal.returns-in-Err-put_record
returns-in-Err-put_record g c = record {
  bytes = search rules;
  goes = grind (
    arith,
    shows_on g.W.Outside g.met.W.Outside.fewer_later c.args.outside.now c.loop-index.outside c.put_record.new.outside c.loop-index.invariant.only
        (shows_on g.W.Outside g.met.W.Outside.fewer_later c.loop-index.outside c.record_at.new.outside c.put_record.new.outside (shows_asks g.W.Outside c.loop-index.outside c.record_at.new.outside c.record_at.ensures.asks) c.put_record.ensures.goes.only),
  );
  prints = λ shown is.
      let G = g.W.Outside in let old = c.args.outside.now in let here = (goal.at.returns-in-Err-put_record g c).In-Ok in
      let records = shown.shows.read.records in let index = c.loop-index.index in let i = index - c.args.passed in
      let number = later c.args.durable.now.bank.base c.args.passed in let behind = drop c.args.passed records in
      let le : c.args.passed ≤ index = omega (arith, c.loop-index.auto.index) in
      let at = lies g here shown (c.loop-index.invariant.place shown is) in
      let text = text_is c.args.durable.now.bank.base c.args.passed index ((c.base.result + (c.from.result + 1)) % 2 ^ 64) records at.1.0.lines le (omega (arith, c.base.ensures, c.from.ensures)) at.1.1.0 in
      let rest = records_rest number behind i (omega (arith, within g here shown, le, length-drop c.args.passed records)) in
      let line = record_text (later number (i + 1)) (told (get_or behind i [])) in
      prints_same (G.printed old) (G.printed c.put_record.new.outside) ((records_text number (take i (map told behind)) ++ line) ++ rest.0) (records_text number (map told behind)) broken rest.1
      (prints_stop (G.printed old) (G.printed c.put_record.new.outside) (records_text number (take i (map told behind)) ++ line) rest.0 broken broken refl refl
      (prints_on (G.printed old) (G.printed c.loop-index.outside) (G.printed c.put_record.new.outside) (records_text number (take i (map told behind))) line tt broken (c.loop-index.invariant.so_far shown is).0
      (subst (λ (printed : Option (List ℕ)). Prints printed (G.printed c.put_record.new.outside) line broken) c.record_at.ensures.asks.calls.quiet.same
      (subst (λ (bytes : List ℕ). Prints (G.printed c.record_at.new.outside) (G.printed c.put_record.new.outside) bytes broken) text (c.in-Err-put_record.ensures.prints at.0 at.1.0 at.1.1.1)))));
}

pub loop-index-preserved : goal.loop-index-preserved
loop-index-preserved g c =
    let G = g.W.Outside in let here = (goal.at.loop-index-preserved g c).In-Ok in let old = c.args.outside.now in
    let loop = c.loop-index.outside in let mid = c.record_at.new.outside in let index = c.loop-index.index in
    let i = index - c.args.passed in let number = later c.args.durable.now.bank.base c.args.passed in
    let le : c.args.passed ≤ index = omega (arith, c.loop-index.auto.index) in
    let on : i + 1 ≡ index + 1 - c.args.passed = omega (arith, le) in
    record {
      only =
          shows_on G g.met.W.Outside.fewer_later old loop c.put_record.new.outside c.loop-index.invariant.only
          (shows_on G g.met.W.Outside.fewer_later loop mid c.put_record.new.outside (shows_asks G loop mid c.record_at.ensures.asks) c.put_record.ensures.goes.only);
      disk = c.in-Ok-put_record.ensures.goes.ends.0 ∙ c.in-Ok.ensures.cause.done ∙ c.loop-index.invariant.disk;
      put = c.in-Ok-put_record.ensures.goes.ends.1 ∙ c.record_at.ensures.asks.calls.put ∙ c.loop-index.invariant.put;
      inside = ⊎_elim (λ none. omega (arith, none.1, c.requires.may.some)) (λ some. some.1) c.in-Ok.ensures.found.fits;
      place = λ shown is.
          let records = shown.shows.read.records in let place = c.loop-index.invariant.place shown is in
          let first = lay g here shown place in
          omega (arith, next_is c.args.durable.now.header.directory.page c.args.durable.now.bank.page c.loop-index.place first.0.lines (get_or records index []) c.in-Ok.record shown.shows.fits.page first.1.0 first.1.1, place, area_more c.args.durable.now.bank.page records index (within g here shown));
      so_far = λ shown is.
          let behind = drop c.args.passed shown.shows.read.records in
          let at = lies g here shown (c.loop-index.invariant.place shown is) in
          let text = text_is c.args.durable.now.bank.base c.args.passed index ((c.base.result + (c.from.result + 1)) % 2 ^ 64) shown.shows.read.records at.1.0.lines le (omega (arith, c.base.ensures, c.from.ensures)) at.1.1.0 in
          let line = record_text (later number (i + 1)) (told (get_or behind i [])) in
          subst (λ (bytes : List ℕ). ShipPrintsBy {T = Unit {0}} G bytes old c.put_record.new.outside (Ok tt))
          (records_more number behind i (omega (arith, within g here shown, le, length-drop c.args.passed shown.shows.read.records)) ∙ ap (λ (n : ℕ). records_text number (take n (map told behind))) on)
          (prints_by G old loop c.put_record.new.outside (records_text number (take i (map told behind))) line (Ok tt) (c.loop-index.invariant.so_far shown is)
          (prints_by G loop mid c.put_record.new.outside [] line (Ok tt) (quiet_by G loop mid c.record_at.ensures.asks.calls) (subst (λ (bytes : List ℕ). ShipPrintsBy {T = Unit {0}} G bytes mid c.put_record.new.outside (Ok tt)) text (c.in-Ok-put_record.ensures.prints at.0 at.1.0 at.1.1.1))));
      bytes = λ shown is.
          let behind = drop c.args.passed shown.shows.read.records in
          let at = lies g here shown (c.loop-index.invariant.place shown is) in
          let Each = λ (lines : List RecordLine). All (HasBytes (line_bytes c.args.durable.now.header.directory.page)) lines in
          subst (λ (n : ℕ). All Each (take n behind)) on
          (all_more Each behind i [] (omega (arith, within g here shown, le, length-drop c.args.passed shown.shows.read.records)) (c.loop-index.invariant.bytes shown is) (subst Each (at.1.1.0 ∙ lines_at shown.shows.read.records c.args.passed index le) (c.in-Ok-put_record.ensures.bytes at.0 at.1.0 at.1.1.1)));
    }

pub returns : goal.returns
returns g c = record {
  goes = search rules;
  prints = λ shown is.
      let number = later c.args.durable.now.bank.base c.args.passed in
      let behind = drop c.args.passed shown.shows.read.records in
      subst (λ (bytes : List ℕ). ShipPrintsBy {T = Unit {0}} g.W.Outside bytes c.args.outside.now c.loop-index.outside (Ok tt))
      (ap (records_text number) (take_all (c.loop-index.index - c.args.passed) (map told behind) (omega (arith, shown.shows.read.count, c.loop-index-test.false, c.records-index-end.ensures, length-map behind told, length-drop c.args.passed shown.shows.read.records))))
      (c.loop-index.invariant.so_far shown is);
  bytes = λ shown is. grind (arith, take_all (c.loop-index.index - c.args.passed) (drop c.args.passed shown.shows.read.records) (omega (arith, shown.shows.read.count, c.loop-index-test.false, c.records-index-end.ensures, length-drop c.args.passed shown.shows.read.records)), c.loop-index.invariant.bytes shown is);
}

pub put_record-requires-clause-store : goal.put_record-requires-clause-store
put_record-requires-clause-store g c = grind arith

pub returns-in-Err : goal.returns-in-Err
returns-in-Err g c = record {
  bytes = search rules;
  goes = grind (arith, shows_on g.W.Outside g.met.W.Outside.fewer_later c.args.outside.now c.loop-index.outside c.record_at.new.outside c.loop-index.invariant.only (shows_asks g.W.Outside c.loop-index.outside c.record_at.new.outside c.record_at.ensures.asks));
  prints = λ shown is.
      let number = later c.args.durable.now.bank.base c.args.passed in
      let behind = drop c.args.passed shown.shows.read.records in let i = c.loop-index.index - c.args.passed in
      let rest = part_of number behind i in
      prints_same (g.W.Outside.printed c.args.outside.now) (g.W.Outside.printed c.record_at.new.outside) (records_text number (take i (map told behind)) ++ rest.0) (records_text number (map told behind)) broken rest.1
      (prints_on (g.W.Outside.printed c.args.outside.now) (g.W.Outside.printed c.loop-index.outside) (g.W.Outside.printed c.record_at.new.outside) (records_text number (take i (map told behind))) rest.0 tt broken (c.loop-index.invariant.so_far shown is).0
      (prints_unput (g.W.Outside.printed c.loop-index.outside) (g.W.Outside.printed c.record_at.new.outside) rest.0 broken refl c.record_at.ensures.asks.calls.quiet.same));
}
