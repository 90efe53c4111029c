use Rattle.standby.proofs.Common.{rules}
use Rattle.standby.proofs.Lemmas.{◌≡◌, ℕ, ◌≤◌, List, [], ◌++◌, length, map, take, drop, refl, sym, subst, ◌∙◌, ap, arith, Result, Ok, Err, All, length-drop, length-map, Layout, line_count, Header, line_bytes, RecordLine, Prints, ShipPrintsBy, PutsAtOnce, Shipped, feeds, prints_on, prints_stop, prints_unput, area_bytes, broken, HasBytes, shipped, behind, put_result, closing_line, head_line, later, records_text, ship_text, told, held_of, AsksAndPuts, shows_asks, shows_on, IsShown, nat_tests, later_later, end_is_line, head_is_line, one_feed, by_put, prints_by, quiet_by, shows_line, still_shown, on_ok}
use Rattle.standby.proofs.ShipLemmas.{content_is}
use Rattle.standby.proofs.shipping.put_text.Given.{Over}
use Rattle.standby.proofs.shipping.put_text.Goals as goal
use Rattle.standby.proofs.shipping.put_text.Goals.{After-put_line, After-put_records}

-- asked, and then a line put
line_only : (g : Over) (c : goal.After-put_line g) → AsksAndPuts g.W.Outside c.args.outside.now c.put_line.new.outside
line_only g c =
    shows_on g.W.Outside g.met.W.Outside.fewer_later c.args.outside.now c.place_behind.new.outside c.put_line.new.outside (shows_asks g.W.Outside c.args.outside.now c.place_behind.new.outside c.place_behind.ensures.asks)
    (shows_line g.W.Outside c.as_slice.result.now c.place_behind.new.outside c.put_line.new.outside (put_result c.put_line.result) c.put_line.ensures.puts)

-- which is the first line
line_put : (g : Over) (c : goal.After-put_line g) (result : Result (Unit {0}) Shipped) → PutsAtOnce g.W.Outside c.as_slice.result.now c.place_behind.new.outside c.put_line.new.outside (put_result result)
    → ShipPrintsBy g.W.Outside (head_line (line_bytes c.args.durable.now.header.directory.page) (line_count c.args.durable.now.header.directory) c.args.from) c.args.outside.now c.put_line.new.outside result
line_put g c result puts =
    let head = head_line c.line_bytes.result c.args.lines c.args.from in
    let head_is : c.as_slice.result.now ≡ head = c.as_slice.ensures ∙ c.fill_head.ensures in
    let same : head ≡ head_line (line_bytes c.args.durable.now.header.directory.page) (line_count c.args.durable.now.header.directory) c.args.from =
    ap (λ (n : ℕ). head_line n c.args.lines c.args.from) (c.line_bytes.ensures.value ∙ ap (λ (layout : Layout). line_bytes layout.page) (c.directory.ensures.value ∙ ap (λ (header : Header). header.directory) c.header.ensures)) ∙ ap (λ (n : ℕ). head_line (line_bytes c.args.durable.now.header.directory.page) n c.args.from) c.requires.lines in
    let one = ap feeds head_is ∙ one_feed head (head_is_line c.line_bytes.result c.args.lines c.args.from (omega (arith, c.line_bytes.ensures.few)) (omega (arith, c.ranges.lines.fits)) (omega (arith, c.ranges.from.fits))) in
    subst (λ (bytes : List ℕ). ShipPrintsBy g.W.Outside bytes c.args.outside.now c.put_line.new.outside result) (head_is ∙ same)
    (prints_by g.W.Outside c.args.outside.now c.place_behind.new.outside c.put_line.new.outside [] c.as_slice.result.now result (quiet_by g.W.Outside c.args.outside.now c.place_behind.new.outside c.place_behind.ensures.asks.calls)
    (by_put g.W.Outside c.as_slice.result.now c.place_behind.new.outside c.put_line.new.outside result one puts))

-- the store is shown still, and the first of the records is where it was
still_there : (g : Over) (c : goal.After-put_line g) (shown : IsShown g.W.Outside c.args.durable.now c.args.outside.now)
    → (still : IsShown g.W.Outside c.args.durable.now c.put_line.new.outside) × ((still.shows.read.records ≡ shown.shows.read.records) × (c.in-Ok.place ≡ area_bytes c.args.durable.now.bank.page (take c.args.passed still.shows.read.records)))
still_there g c shown =
    let still = still_shown g.W.Outside c.args.durable.now c.args.outside.now c.put_line.new.outside shown (c.put_line.ensures.puts.only.held ∙ c.place_behind.ensures.asks.held) in
    (still.0, (still.1, c.in-Ok.ensures.place shown ∙ ap (λ (records : List (List RecordLine)). area_bytes c.args.durable.now.bank.page (take c.args.passed records)) (sym still.1)))

pub returns-in-Err-put_line : goal.returns-in-Err-put_line
returns-in-Err-put_line g c = record {
  bytes = search rules;
  goes = grind (arith, line_only g (goal.at.returns-in-Err-put_line g c).After-put_line);
  prints = λ shown.
      let G = g.W.Outside in let content = shipped c.args.durable.now shown.shows.read.records c.args.from in
      let head = head_line (line_bytes c.args.durable.now.header.directory.page) (line_count c.args.durable.now.header.directory) c.args.from in
      prints_stop (G.printed c.args.outside.now) (G.printed c.put_line.new.outside) (head ++ records_text content.start content.records) (closing_line (later content.start (length content.records))) broken broken refl refl
      (prints_stop (G.printed c.args.outside.now) (G.printed c.put_line.new.outside) head (records_text content.start content.records) broken broken refl refl
      (line_put g (goal.at.returns-in-Err-put_line g c).After-put_line (Err c.in-Err-put_line.why) c.in-Err-put_line.ensures.puts));
}

-- the records are those behind the number
records_are : (base passed from : ℕ) (first second : List (List RecordLine)) → from ≡ later base passed → passed ≡ behind base from → second ≡ first → records_text (later base passed) (map told (drop passed second)) ≡ records_text from (map told (drop (behind base from) first))
records_are base passed from first second is many same =
    ap (λ (n : ℕ). records_text n (map told (drop passed second))) (sym is)
    ∙ ap (λ (n : ℕ). records_text from (map told (drop n second))) many
    ∙ ap (λ (records : List (List RecordLine)). records_text from (map told (drop (behind base from) records))) same

-- the last number
last_is : (base passed from count : ℕ) (records : List (List RecordLine)) → from ≡ later base passed → passed ≡ behind base from → length records ≡ count → passed ≤ count → later base count ≡ later from (length (map told (drop (behind base from) records)))
last_is base passed from count records is many long le = grind (arith, nat_tests, length-map, length-drop, later_later, many)

-- and the records
records_only : (g : Over) (c : goal.After-put_records g) → AsksAndPuts g.W.Outside c.args.outside.now c.put_line.new.outside → AsksAndPuts g.W.Outside c.args.outside.now c.put_records.new.outside
records_only g c line = shows_on g.W.Outside g.met.W.Outside.fewer_later c.args.outside.now c.put_line.new.outside c.put_records.new.outside line c.put_records.ensures.goes.only

pub returns-in-Err-put_records : goal.returns-in-Err-put_records
returns-in-Err-put_records g c = record {
  bytes = search rules;
  goes =
      let at = goal.at.returns-in-Err-put_records g c in
      grind (arith, records_only g at.After-put_records (line_only g at.After-put_line));
  prints = λ shown.
      let G = g.W.Outside in let content = shipped c.args.durable.now shown.shows.read.records c.args.from in
      let head = head_line (line_bytes c.args.durable.now.header.directory.page) (line_count c.args.durable.now.header.directory) c.args.from in
      let then = (goal.at.returns-in-Err-put_records g c).After-put_line in let still = still_there g then shown in
      let old = c.args.outside.now in let mid = c.put_line.new.outside in let new = c.put_records.new.outside in
      prints_stop (G.printed old) (G.printed new) (head ++ records_text content.start content.records) (closing_line (later content.start (length content.records))) broken broken refl refl
      (prints_on (G.printed old) (G.printed mid) (G.printed new) head (records_text content.start content.records) tt broken (line_put g then (Ok tt) c.in-Ok-put_line.ensures.puts).0
      (subst (λ (bytes : List ℕ). Prints (G.printed mid) (G.printed new) bytes broken) (records_are c.args.durable.now.bank.base c.args.passed c.args.from shown.shows.read.records still.0.shows.read.records c.requires.from c.requires.behind still.1.0)
      (c.in-Err-put_records.ensures.prints still.0 still.1.1)));
}

pub returns : goal.returns
returns g c = record {
  goes =
      let at = goal.at.returns g c in
      grind (
        arith,
        shows_on g.W.Outside g.met.W.Outside.fewer_later c.args.outside.now c.put_records.new.outside c.put_line-2.new.outside (records_only g at.After-put_records (line_only g at.After-put_line))
            (shows_line g.W.Outside c.as_slice-2.result.now c.put_records.new.outside c.put_line-2.new.outside (put_result c.put_line-2.result) c.put_line-2.ensures.puts),
      );
  prints = λ shown.
      let G = g.W.Outside in let line = (goal.at.returns g c).After-put_line in let old = c.args.outside.now in
      let then = c.put_records.new.outside in let new = c.put_line-2.new.outside in
      let content = shipped c.args.durable.now shown.shows.read.records c.args.from in
      let head = head_line (line_bytes c.args.durable.now.header.directory.page) (line_count c.args.durable.now.header.directory) c.args.from in
      let still = still_there g line shown in
      let part = subst (λ (bytes : List ℕ). ShipPrintsBy {T = Unit {0}} G bytes c.put_line.new.outside then (Ok tt)) (records_are c.args.durable.now.bank.base c.args.passed c.args.from shown.shows.read.records still.0.shows.read.records c.requires.from c.requires.behind still.1.0)
      (c.in-Ok-put_records.ensures.prints still.0 still.1.1) in
      let last : c.as_slice-2.result.now ≡ closing_line (later content.start (length content.records)) =
      c.as_slice-2.ensures ∙ c.fill_end.ensures ∙ ap closing_line (c.number.ensures ∙ last_is c.args.durable.now.bank.base c.args.passed c.args.from c.args.durable.now.bank.count shown.shows.read.records c.requires.from c.requires.behind shown.shows.read.count c.requires.may.passed) in
      prints_by G old then new (head ++ records_text content.start content.records) (closing_line (later content.start (length content.records))) c.put_line-2.result
      (prints_by G old c.put_line.new.outside then head (records_text content.start content.records) (Ok tt) (line_put g line (Ok tt) c.in-Ok-put_line.ensures.puts) part)
      (subst (λ (bytes : List ℕ). ShipPrintsBy G bytes then new c.put_line-2.result) last
      (by_put G c.as_slice-2.result.now then new c.put_line-2.result (ap feeds last ∙ one_feed (closing_line (later content.start (length content.records))) (end_is_line (later content.start (length content.records)) (omega arith))) c.put_line-2.ensures.puts));
  bytes =
      on_ok c.put_line-2.result (λ shown.
      let still = still_there g (goal.at.returns g c).After-put_line shown in
      content_is (held_of g.W.Outside c.args.outside.now) c.args.durable.now shown.shows c.args.from c.ranges.from.fits (omega (arith, c.requires.lines, c.ranges.lines.fits))
      (subst (λ (n : ℕ). All (λ lines. All (HasBytes (line_bytes c.args.durable.now.header.directory.page)) lines) (drop n shown.shows.read.records)) c.requires.behind
      (subst (λ (records : List (List RecordLine)). All (λ lines. All (HasBytes (line_bytes c.args.durable.now.header.directory.page)) lines) (drop c.args.passed records)) still.1.0 (c.in-Ok-put_records.ensures.bytes still.0 still.1.1))));
}

pub put_records-requires-clause-may : goal.put_records-requires-clause-may
put_records-requires-clause-may g c = grind arith

pub returns-in-Err : goal.returns-in-Err
returns-in-Err g c = record {
  bytes = search rules;
  goes = grind arith;
  prints = λ shown.
      prints_unput (g.W.Outside.printed c.args.outside.now) (g.W.Outside.printed c.place_behind.new.outside) (ship_text (shipped c.args.durable.now shown.shows.read.records c.args.from)) broken refl c.place_behind.ensures.asks.calls.quiet.same;
}
