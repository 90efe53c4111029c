use Rattle.std.proofs.Common.{rules}
use Rattle.standby.proofs.Lemmas.{◌≡◌, ℕ, ◌+◌, ◌-◌, List, length, map, take, drop, refl, sym, subst, ◌∙◌, ap, arith, length-map, line_bytes, most_lines, store_number, bank_behind, Follows, IsAlike, IsLongAt, behind, due, ShipLine, ship_content, later, record_of, Done, Geometry, NotKept, Long, ShipRecord, common_steps, All, ◌≤◌, follows_none, not_done, FlatStore, AllFit, found_stopped}
use Rattle.standby.proofs.BeginLemmas.{due_are, few_are, first_is, fitting}
use Rattle.standby.proofs.following.follow.Given.{Over}
use Rattle.standby.proofs.following.follow.Goals as goal
use Rattle.standby.proofs.following.follow.Goals.{After-long_among}

abbrev passed : (g : Over) (c : goal.After-long_among g) → ℕ
passed g c = behind c.args.ship.now.start (store_number c.args.durable.now)

-- the records that are asked for
abbrev slice : (g : Over) (c : goal.After-long_among g) → List ShipRecord
slice g c = take (length c.deref.result.now - behind c.args.ship.now.start c.number.result) (drop (behind c.args.ship.now.start c.number.result) c.deref.result.now)

slice_is : (g : Over) (c : goal.After-long_among g) → slice g c ≡ take (length c.deref.result.now - passed g c) (drop (passed g c) c.deref.result.now)
slice_is g c = ap (λ (n : ℕ). take (length c.deref.result.now - behind c.args.ship.now.start n) (drop (behind c.args.ship.now.start n) c.deref.result.now)) c.number.ensures

alike : (g : Over) (c : goal.After-long_among g) → IsAlike c.args.durable.now.header (ship_content c.args.ship.now)
alike g c = c.is_alike.ensures.0 c.if-not-is_alike.false

most : (g : Over) (c : goal.After-long_among g) → c.most_lines.result ≡ most_lines c.args.durable.now.header
most g c = c.most_lines.ensures.value ∙ ap most_lines c.header.ensures

among : (g : Over) (c : goal.After-long_among g) → passed g c ≤ length (map (record_of c.args.ship.now.line_bytes) c.args.ship.now.records.items)
among g c =
    let number = ap (behind c.args.ship.now.start) c.number.ensures in
    omega (arith, number, c.if-passed-len.false, c.len.ensures, length-map c.args.ship.now.records.items (record_of c.args.ship.now.line_bytes))

due_is : (g : Over) (c : goal.After-long_among g) → map (record_of (line_bytes c.args.durable.now.header.directory.page)) (slice g c) ≡ due (ship_content c.args.ship.now) (store_number c.args.durable.now)
due_is g c = due_are c.args.ship.now c.args.durable.now.header c.requires.ship (alike g c) (passed g c) c.deref.result.now (slice g c) c.deref.ensures.value (slice_is g c)

-- what was done of the records that were asked for is so of those that are due
of_due : (g : Over) (c : goal.After-long_among g) (follows : ℕ → List (List ShipLine) → Type 0) → follows (line_bytes c.args.durable.now.header.directory.page) (map (record_of (line_bytes c.args.durable.now.header.directory.page)) (slice g c)) → follows c.args.ship.now.line_bytes (due (ship_content c.args.ship.now) (store_number c.args.durable.now))
of_due g c follows is = subst (λ (n : ℕ). follows n (due (ship_content c.args.ship.now) (store_number c.args.durable.now))) (sym (alike g c).bytes) (subst (follows (line_bytes c.args.durable.now.header.directory.page)) (due_is g c) is)

few : (g : Over) (c : goal.After-long_among g) → All (λ kept. length kept.lines.items ≤ c.most_lines.result) (slice g c) → All (λ kept. length kept.lines.items ≤ most_lines c.args.durable.now.header) (slice g c)
few g c short = subst (λ (n : ℕ). All (λ (kept : ShipRecord). length kept.lines.items ≤ n) (slice g c)) (most g c) short

pub keep_all-requires-clause-fitting : goal.keep_all-requires-clause-fitting
keep_all-requires-clause-fitting g c =
    let at = (goal.at.keep_all-requires-clause-fitting g c).After-long_among in
    fitting c.args.ship.now c.args.durable.now.header c.requires.ship (alike g at) (passed g at) c.deref.result.now (slice g at) c.deref.ensures.value (slice_is g at) (few g at c.in-None.ensures.none)

-- all records that are due fit
all_few : (g : Over) (c : goal.After-long_among g) → All (λ kept. length kept.lines.items ≤ c.most_lines.result) (slice g c)
    → AllFit c.args.durable.now.header (ship_content c.args.ship.now) (store_number c.args.durable.now)
all_few g c short =
    few_are c.args.ship.now c.args.durable.now.header c.requires.ship (alike g c) (passed g c) c.deref.result.now (slice g c) c.deref.ensures.value
    (slice_is g c) (few g c short)

pub returns-in-Ok : goal.returns-in-Ok
returns-in-Ok g c =
    let at = (goal.at.returns-in-Ok g c).After-long_among in
    let Goes = λ (bytes : ℕ) (records : List (List ShipLine)) (store : FlatStore).
    Follows g.W.Outside bytes (store_number c.args.durable.now) store records c.keep_all.new.durable c.args.outside.now c.keep_all.new.outside Done in
    record {
      found = (alike g at, among g at, all_few g at c.in-None.ensures.none);
      refused = grind arith;
      only = c.in-Ok.ensures.goes.only;
      ends = c.in-Ok.ensures.goes.ends;
      header = c.in-Ok.ensures.goes.header;
      kept = λ done. c.in-Ok.ensures.kept ∙ ap (bank_behind c.args.durable.now.bank) (due_is g at);
      follows = λ store tracks stood. of_due g at (λ bytes records. Goes bytes records store) (c.in-Ok.ensures.follows store tracks stood);
    }

pub returns-in-Err : goal.returns-in-Err
returns-in-Err g c =
    let at = (goal.at.returns-in-Err g c).After-long_among in
    let Goes = λ (bytes : ℕ) (records : List (List ShipLine)) (store : FlatStore).
    Follows g.W.Outside bytes (store_number c.args.durable.now) store records c.keep_all.new.durable c.args.outside.now c.keep_all.new.outside c.in-Err.why in
    record {
      found =
          found_stopped c.args.durable.now.header (ship_content c.args.ship.now) (store_number c.args.durable.now) c.in-Err.why c.in-Err.ensures.goes.stopped
          (alike g at, among g at, all_few g at c.in-None.ensures.none);
      refused = grind arith;
      only = c.in-Err.ensures.goes.only;
      ends = c.in-Err.ensures.goes.ends;
      header = c.in-Err.ensures.goes.header;
      kept = λ done. absurd (not_done c.in-Err.why c.in-Err.ensures.goes.stopped done);
      follows = λ store tracks stood. of_due g at (λ bytes records. Goes bytes records store) (c.in-Err.ensures.follows store tracks stood);
    }

pub keep_all-requires-clause-store : goal.keep_all-requires-clause-store
keep_all-requires-clause-store g c = grind arith

pub returns-then-not-is_alike : goal.returns-then-not-is_alike
returns-then-not-is_alike g c = record {
  found = first_of (search rules, grind (arith, common_steps));
  refused = first_of (search rules, grind (arith, common_steps));
  only = grind (arith, common_steps);
  ends = first_of (search rules, grind (arith, common_steps));
  header = first_of (search rules, grind (arith, common_steps));
  kept = first_of (search rules, grind (arith, common_steps));
  follows = λ store tracks stood. follows_none g.W.Outside g.met.W.Outside.fewer_later g.met.W.Outside.printed_now c.args.ship.now.line_bytes (store_number c.args.durable.now) store (due (ship_content c.args.ship.now) (store_number c.args.durable.now)) c.args.durable.now c.args.outside.now Geometry (omega arith) tracks stood refl;
}

pub returns-then-passed-len : goal.returns-then-passed-len
returns-then-passed-len g c = record {
  found = grind (arith, common_steps);
  refused = first_of (search rules, grind (arith, common_steps));
  only = grind arith;
  ends = first_of (search rules, grind (arith, common_steps));
  header = first_of (search rules, grind (arith, common_steps));
  kept = first_of (search rules, grind (arith, common_steps));
  follows = λ store tracks stood. follows_none g.W.Outside g.met.W.Outside.fewer_later g.met.W.Outside.printed_now c.args.ship.now.line_bytes (store_number c.args.durable.now) store (due (ship_content c.args.ship.now) (store_number c.args.durable.now)) c.args.durable.now c.args.outside.now NotKept (omega arith) tracks stood refl;
}

pub returns-in-Some : goal.returns-in-Some
returns-in-Some g c = record {
  found =
      let at = (goal.at.returns-in-Some g c).After-long_among in
      let long = subst (λ (n : ℕ). IsLongAt n (slice g at) c.in-Some.place) (most g at) c.in-Some.ensures.first in (
        alike g at,
        among g at,
        (
          c.in-Some.place,
          ap (λ (n : ℕ). later n (c.in-Some.place + 1)) c.number-in-Some.ensures,
          first_is c.args.ship.now c.args.durable.now.header c.requires.ship (alike g at) (passed g at) c.deref.result.now (slice g at) c.deref.ensures.value (slice_is g at) c.in-Some.place long,
        ),
      );
  refused = first_of (search rules, grind (arith, common_steps));
  only = grind arith;
  ends = first_of (search rules, grind (arith, common_steps));
  header = first_of (search rules, grind (arith, common_steps));
  kept = first_of (search rules, grind (arith, common_steps));
  follows = λ store tracks stood. follows_none g.W.Outside g.met.W.Outside.fewer_later g.met.W.Outside.printed_now c.args.ship.now.line_bytes (store_number c.args.durable.now) store (due (ship_content c.args.ship.now) (store_number c.args.durable.now)) c.args.durable.now c.args.outside.now (Long _) (omega arith) tracks stood refl;
}
