use Rattle.store.proofs.Lemmas.{◌≡◌, ℕ, ◌+◌, ◌*◌, List, [], length, drop, sym, subst, ◌∙◌, ap, arith, IsSome, entry_bytes, RecordLine, lines_from, wrong_line, gate_if, lined_gate, held_of, OnlyAsks, noted, read_is, asks_on, asks_one, common_steps, Option, None, Some, unwrap_or, slice_index, ◌==◌, first_read, gate_read, gate_misnumbered, read_on}
use Rattle.store.proofs.bank_reading.read_gate.Given.{Over}
use Rattle.store.proofs.bank_reading.read_gate.Goals as goal
use Rattle.store.proofs.bank_reading.read_gate.Goals.{After-read_at-2, After-read_lines}

-- the lines behind the gate
lines : (g : Over) (c : goal.After-read_lines g) → List RecordLine
lines g c = lines_from c.args.page c.read_u16-count.result (c.args.gate + 11) (drop (c.args.gate + 11) (held_of g.W.Outside c.args.outside.now))

gate_is : (g : Over) (c : goal.After-read_lines g) → IsSome (g.W.Outside.held c.args.outside.now)
    → gate_if c.args.page (slice_index (held_of g.W.Outside c.args.outside.now) c.args.gate == 0xA5) (length c.args.newest.now) c.args.end c.args.due c.args.gate (drop c.args.gate (held_of g.W.Outside c.args.outside.now))
    ≡ lined_gate (wrong_line (length c.args.newest.now) 0 (lines g c)) (lines g c) (c.args.gate + 11 + entry_bytes c.args.page * c.read_u16-count.result)
unfolding lines
gate_is g c some =
    let head = read_on (g.W.Outside.held c.args.outside.now) (g.W.Outside.held c.read_at.new.self) c.read_at-2.new.into (c.args.gate + 1) 10 c.read_at.ensures.asks.held some c.in_ok-read_at-2.ensures.read in
    gate_read c.args.page (held_of g.W.Outside c.args.outside.now) c.read_at-2.new.into (length c.args.newest.now) c.args.end c.args.due c.args.gate c.read_u16-count.result c.read_u64.result head c.read_u16-count.ensures c.read_u64.ensures c.if-read_u64-due.false
    (first_read (held_of g.W.Outside c.args.outside.now) c.read_at.new.into c.args.gate (read_is (g.W.Outside.held c.args.outside.now) c.read_at.new.into c.args.gate 1 some c.in_ok-read_at.ensures.read) c.if-first.false)
    (omega (arith, c.if-end-next.false, c.from.ensures, c.entries_bytes.ensures.value))

-- the bytes held by then are those at the start
same : (g : Over) (c : goal.After-read_lines g) → lines_from c.args.page c.read_u16-count.result (c.args.gate + 11) (drop (c.args.gate + 11) (held_of g.W.Outside c.read_at-2.new.self)) ≡ lines g c
unfolding lines
same g c = ap (λ (those : Option (List ℕ)). lines_from c.args.page c.read_u16-count.result (c.args.gate + 11) (drop (c.args.gate + 11) (unwrap_or those []))) (c.read_at-2.ensures.asks.held ∙ c.read_at.ensures.asks.held)

still : (g : Over) (c : goal.After-read_lines g) → IsSome (g.W.Outside.held c.args.outside.now) → IsSome (g.W.Outside.held c.read_at-2.new.self)
still g c some = subst (λ (those : Option (List ℕ)). IsSome those) (sym (c.read_at-2.ensures.asks.held ∙ c.read_at.ensures.asks.held)) some

-- the two reads in front
asked : (g : Over) (c : goal.After-read_at-2 g) → OnlyAsks g.W.Outside c.args.outside.now c.read_at-2.new.self
asked g c =
    asks_on g.W.Outside g.met.W.Outside.fewer_later c.args.outside.now c.read_at.new.self c.read_at-2.new.self
    (asks_one g.W.Outside c.args.outside.now c.read_at.new.self c.read_at.ensures.asks c.read_at.result c.read_at.ensures.counts c.read_at.ensures.deeds)
    (asks_one g.W.Outside c.read_at.new.self c.read_at-2.new.self c.read_at-2.ensures.asks c.read_at-2.result c.read_at-2.ensures.counts c.read_at-2.ensures.deeds)

pub returns-in_err-offset-clause-asks : goal.returns-in_err-offset-clause-asks
returns-in_err-offset-clause-asks g c = asks_on g.W.Outside g.met.W.Outside.fewer_later c.args.outside.now c.read_at-2.new.self c.read_lines.new.outside (asked g (goal.at.returns-in_err-offset-clause-asks g c).After-read_at-2) c.in_err-offset.ensures.asks

pub returns-in-Some-clause-asks : goal.returns-in-Some-clause-asks
returns-in-Some-clause-asks g c = asks_on g.W.Outside g.met.W.Outside.fewer_later c.args.outside.now c.read_at-2.new.self c.read_lines.new.outside (asked g (goal.at.returns-in-Some-clause-asks g c).After-read_at-2) c.in_ok-offset.ensures.asks

pub returns-in-None-clause-asks : goal.returns-in-None-clause-asks
returns-in-None-clause-asks g c = asks_on g.W.Outside g.met.W.Outside.fewer_later c.args.outside.now c.read_at-2.new.self c.read_lines.new.outside (asked g (goal.at.returns-in-None-clause-asks g c).After-read_at-2) c.in_ok-offset.ensures.asks

pub returns-in-Some-clause-found : goal.returns-in-Some-clause-found
returns-in-Some-clause-found g c some =
    let at = (goal.at.returns-in-Some-clause-found g c).After-read_lines in
    let fault : wrong_line (length c.args.newest.now) 0 (lines g at) ≡ Some c.in-Some.offset = ap (wrong_line (length c.args.newest.now) 0) (sym (same g at)) ∙ sym (c.in_ok-offset.ensures.found (still g at some)).0 ∙ c.in-Some.is in
    gate_is g at some ∙ ap (λ (those : Option ℕ). lined_gate those (lines g at) (c.args.gate + 11 + entry_bytes c.args.page * c.read_u16-count.result)) fault

pub returns-in-None-clause-found : goal.returns-in-None-clause-found
returns-in-None-clause-found g c some =
    let at = (goal.at.returns-in-None-clause-found g c).After-read_lines in
    let fault : wrong_line (length c.args.newest.now) 0 (lines g at) ≡ None = ap (wrong_line (length c.args.newest.now) 0) (sym (same g at)) ∙ sym (c.in_ok-offset.ensures.found (still g at some)).0 ∙ c.in-None.is in (
      lines g at,
      gate_is g at some
          ∙ ap (λ (those : Option ℕ). lined_gate those (lines g at) (c.args.gate + 11 + entry_bytes c.args.page * c.read_u16-count.result)) fault
          ∙ ap (λ (n : ℕ). lined_gate None (lines g at) (c.args.gate + 11 + n)) (sym (c.from.ensures ∙ c.entries_bytes.ensures.value)),
      (c.in_ok-offset.ensures.found (still g at some)).1 c.in-None.is ∙ ap (noted c.args.newest.now) (same g at),
    )

pub returns-then-read_u64-due-clause-asks : goal.returns-then-read_u64-due-clause-asks
returns-then-read_u64-due-clause-asks g c = asked g (goal.at.returns-then-read_u64-due-clause-asks g c).After-read_at-2

pub returns-then-read_u64-due-clause-found : goal.returns-then-read_u64-due-clause-found
returns-then-read_u64-due-clause-found g c some =
    let head = read_on (g.W.Outside.held c.args.outside.now) (g.W.Outside.held c.read_at.new.self) c.read_at-2.new.into (c.args.gate + 1) 10 c.read_at.ensures.asks.held some c.in_ok-read_at-2.ensures.read in
    gate_misnumbered c.args.page (held_of g.W.Outside c.args.outside.now) c.read_at-2.new.into (length c.args.newest.now) c.args.end c.args.due c.args.gate c.read_u16-count.result c.read_u64.result head c.read_u16-count.ensures c.read_u64.ensures c.if-read_u64-due.true
    (first_read (held_of g.W.Outside c.args.outside.now) c.read_at.new.into c.args.gate (read_is (g.W.Outside.held c.args.outside.now) c.read_at.new.into c.args.gate 1 some c.in_ok-read_at.ensures.read) c.if-first.false)
    (omega (arith, c.if-end-next.false, c.from.ensures, c.entries_bytes.ensures.value))

pub returns-then-end-next-clause-found : goal.returns-then-end-next-clause-found
returns-then-end-next-clause-found g c = grind (arith, common_steps)

pub read_lines-requires-clause-room : goal.read_lines-requires-clause-room
read_lines-requires-clause-room g c = grind arith

pub returns-in-Some-clause-placed : goal.returns-in-Some-clause-placed
returns-in-Some-clause-placed g c = grind arith

pub returns-in-None-clause-placed : goal.returns-in-None-clause-placed
returns-in-None-clause-placed g c = grind arith

pub returns-then-first-clause-found : goal.returns-then-first-clause-found
returns-then-first-clause-found g c = grind (arith, common_steps)

pub returns-then-end-gate-clause-found : goal.returns-then-end-gate-clause-found
returns-then-end-gate-clause-found g c = grind (arith, common_steps)

pub returns-then-end-next-clause-asks : goal.returns-then-end-next-clause-asks
returns-then-end-next-clause-asks g c = asked g (goal.at.returns-then-end-next-clause-asks g c).After-read_at-2

pub returns-in_err-read_at-2-clause-asks : goal.returns-in_err-read_at-2-clause-asks
returns-in_err-read_at-2-clause-asks g c = asked g (goal.at.returns-in_err-read_at-2-clause-asks g c).After-read_at-2
