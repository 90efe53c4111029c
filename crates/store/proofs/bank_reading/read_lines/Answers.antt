use Rattle.store.proofs.Lemmas.{nat_tests, ◌≡◌, ℕ, ◌+◌, ◌*◌, List, length, sym, subst, ◌∙◌, ap, arith, IsSome, Option, entry_bytes, wrong_line, OnlyAsks, held_of, noted, AreNewestWithin, read_is, asks_on, asks_one, in_order, entries-below, within-overlaid, lines_after, wrong_here, right_here, noted_here, is_low, reads_within, big_number, drop, big_from-take}
use Rattle.store.proofs.bank_reading.read_lines.Given.{Over}
use Rattle.store.proofs.bank_reading.read_lines.Goals as goal
use Rattle.store.proofs.bank_reading.read_lines.Goals.{After-read_u32-line}

read : (g : Over) (c : goal.After-read_u32-line g) → IsSome (g.W.Outside.held c.args.outside.now)
    → c.read_u32-line.result ≡ big_number 4 (drop (c.args.at + entry_bytes c.args.page * c.loop-i.i) (held_of g.W.Outside c.args.outside.now))
read g c some = grind (arith, nat_tests, read_is, c.loop-i.invariant.asks.held, g.W.Outside.held, big_from-take)

-- the reads so far and this one
asked : (g : Over) (c : goal.After-read_u32-line g) → OnlyAsks g.W.Outside c.args.outside.now c.read_at.new.self
asked g c =
    asks_on g.W.Outside g.met.W.Outside.fewer_later c.args.outside.now c.loop-i.outside c.read_at.new.self c.loop-i.invariant.asks (asks_one g.W.Outside c.loop-i.outside c.read_at.new.self c.read_at.ensures.asks c.read_at.result c.read_at.ensures.counts c.read_at.ensures.deeds)

pub returns-then-from-least-clause-asks : goal.returns-then-from-least-clause-asks
returns-then-from-least-clause-asks g c = asked g (goal.at.returns-then-from-least-clause-asks g c).After-read_u32-line

pub returns-then-from-least-clause-found : goal.returns-then-from-least-clause-found
returns-then-from-least-clause-found g c some = (grind (arith, nat_tests, is_low, wrong_here, c.loop-i.invariant.fault), λ none. cc)

pub loop-i-preserved : goal.loop-i-preserved
loop-i-preserved g c =
    let at = (goal.at.loop-i-preserved g c).After-read_u32-line in
    let held = held_of g.W.Outside c.args.outside.now in
    let bound = length c.loop-i.newest in
    let line = c.read_u32-line.result in
    let right = in_order bound c.loop-i.least line (omega (arith, c.if-from-least.false, c.from-in-loop-i.ensures)) (omega (arith, c.if-len-line.false, c.len.ensures)) in
    let place : c.args.at + c.from.result + 4 ≡ c.args.at + entry_bytes c.args.page * c.loop-i.i + 4 = omega (arith, c.from.ensures, c.entries_bytes.ensures.value) in
    record {
      asks = asked g at;
      no_fault = c.in_ok-read_at.ensures.counts.cause.done ∙ c.loop-i.invariant.no_fault;
      placed = λ end few are.
          subst (λ (these : List (Option ℕ)). AreNewestWithin c.args.page end these) (sym c.write.ensures.value)
          (within-overlaid c.args.page end line (c.args.at + c.from.result + 4) c.loop-i.newest (omega (arith, few, c.from.ensures, c.entries_bytes.ensures.value, entries-below c.args.page c.loop-i.i c.args.count c.loop-i-test.true)) (c.loop-i.invariant.placed end few are));
      len = c.write.ensures.len ∙ c.loop-i.invariant.len;
      fault = λ some.
          ap (λ (n : ℕ). wrong_line n (c.from-least.result + 1) (lines_after c.args.page c.args.count (c.loop-i.i + 1) c.args.at c.args.at held)) c.write.ensures.len
          ∙ ap (λ (n : ℕ). wrong_line bound (n + 1) (lines_after c.args.page c.args.count (c.loop-i.i + 1) c.args.at c.args.at held)) c.from-least.ensures
          ∙ sym (right_here c.args.page c.args.count c.loop-i.i c.args.at c.args.at line held c.loop-i-test.true (read g at some) bound c.loop-i.least right)
          ∙ c.loop-i.invariant.fault some;
      noted = λ some.
          ap (λ (these : List (Option ℕ)). noted these (lines_after c.args.page c.args.count (c.loop-i.i + 1) c.args.at c.args.at held)) c.write.ensures.value
          ∙ sym (noted_here c.args.page c.args.count c.loop-i.i c.args.at c.args.at line held c.loop-i-test.true (read g at some) c.loop-i.newest _ place)
          ∙ c.loop-i.invariant.noted some;
    }

pub read_at-requires : goal.read_at-requires
read_at-requires g c = grind (arith, nat_tests, reads_within, entries-below, g.W.Outside.held)

pub returns-in_err-read_at-clause-asks : goal.returns-in_err-read_at-clause-asks
returns-in_err-read_at-clause-asks g c =
    asks_on g.W.Outside g.met.W.Outside.fewer_later c.args.outside.now c.loop-i.outside c.read_at.new.self c.loop-i.invariant.asks (asks_one g.W.Outside c.loop-i.outside c.read_at.new.self c.read_at.ensures.asks c.read_at.result c.read_at.ensures.counts c.read_at.ensures.deeds)
