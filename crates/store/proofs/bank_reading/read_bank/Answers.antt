use Rattle.store.proofs.Lemmas.{nat_tests, ◌≡◌, ℕ, ◌+◌, ◌%◌, ◌^◌, List, length, drop, sym, subst, ◌∙◌, ap, arith, refl, IsSome, Option, big_number, big_from-take, number_at, gate_at, bank_held, held_of, read_is, asks_one, asks_on, reads_within, read_gate, starts, read_closed, read_wrong, read_sound, area_to}
use Rattle.store_format.specs.Bank as format
use Rattle.store.proofs.bank_reading.read_bank.Given.{Over}
use Rattle.store.proofs.bank_reading.read_bank.Goals as goal
use Rattle.store.proofs.bank_reading.read_bank.Goals.{After-read_gate}

abbrev due : (g : Over) (c : goal.After-read_gate g) → ℕ
due g c = (c.read_u64-base.result + (c.from-in-loop-count.result + 1)) % 2 ^ 64

due_is : (g : Over) (c : goal.After-read_gate g) → due g c ≡ (c.read_u64-base.result + c.loop-count.count + 1) % 2 ^ 64
due_is g c = omega (arith, c.from-in-loop-count.ensures)

-- the gate that was read is that of the bytes held at the start
same_gate : (g : Over) (c : goal.After-read_gate g)
    → read_gate c.args.page (held_of g.W.Outside c.loop-count.outside) (length c.loop-count.newest) (c.args.at + 8 + c.from.result) (due g c) c.loop-count.gate
    ≡ read_gate c.args.page (held_of g.W.Outside c.args.outside.now) (length c.args.newest.now) (c.args.at + 8 + c.args.bank_bytes) (due g c) c.loop-count.gate
same_gate g c = grind (arith, nat_tests)

base_is : (g : Over) (c : goal.After-read_gate g) → IsSome (g.W.Outside.held c.args.outside.now) → c.read_u64-base.result ≡ number_at (held_of g.W.Outside c.args.outside.now) c.args.at 8
base_is g c some =
    c.read_u64-base.ensures
    ∙ ap (λ (these : List ℕ). big_number 8 these) (read_is (g.W.Outside.held c.args.outside.now) c.read_at.new.into c.args.at 8 some c.in_ok-read_at.ensures.read)
    ∙ big_from-take 0 8 8 (drop c.args.at (held_of g.W.Outside c.args.outside.now)) (omega arith)

-- what the bank holds, behind the base that was read
whole : (g : Over) (c : goal.After-read_gate g) → format.BankContent
whole g c =
    format.holds_from (held_of g.W.Outside c.args.outside.now) (area_to c.args.page (length c.args.newest.now) (c.args.at + 8 + c.args.bank_bytes)) c.args.bank_bytes c.read_u64-base.result
    (gate_at (held_of g.W.Outside c.args.outside.now) (area_to c.args.page (length c.args.newest.now) (c.args.at + 8 + c.args.bank_bytes)) c.read_u64-base.result (c.args.at + 8))

whole_is : (g : Over) (c : goal.After-read_gate g) → IsSome (g.W.Outside.held c.args.outside.now) → whole g c ≡ bank_held (held_of g.W.Outside c.args.outside.now) c.args.page (length c.args.newest.now) c.args.at c.args.bank_bytes
unfolding whole
whole_is g c some =
    ap (λ (n : ℕ). format.holds_from (held_of g.W.Outside c.args.outside.now) (area_to c.args.page (length c.args.newest.now) (c.args.at + 8 + c.args.bank_bytes)) c.args.bank_bytes n
    (gate_at (held_of g.W.Outside c.args.outside.now) (area_to c.args.page (length c.args.newest.now) (c.args.at + 8 + c.args.bank_bytes)) n (c.args.at + 8))) (base_is g c some)

still : (g : Over) (c : goal.After-read_gate g) → IsSome (g.W.Outside.held c.args.outside.now) → IsSome (g.W.Outside.held c.loop-count.outside)
still g c some = subst (λ (those : Option (List ℕ)). IsSome those) (sym c.loop-count.invariant.asks.held) some

pub read_at-requires : goal.read_at-requires
read_at-requires g c = reads_within (g.W.Outside.held c.args.outside.now) (c.args.at + 8) (c.args.at + 8 + c.args.bank_bytes) (omega arith) c.requires.room

pub loop-count-init : goal.loop-count-init
loop-count-init g c = record {
  asks = asks_one g.W.Outside c.args.outside.now c.read_at.new.self c.read_at.ensures.asks c.read_at.result c.read_at.ensures.counts c.read_at.ensures.deeds;
  no_fault = c.in_ok-read_at.ensures.counts.cause.done;
  len = refl;
  placed = λ end few are. are;
  far = omega arith;
  inside = omega (arith, c.requires.some);
  reaches = λ some. starts c.args.page (held_of g.W.Outside c.args.outside.now) (length c.args.newest.now) (c.args.at + 8 + c.args.bank_bytes) c.args.bank_bytes c.read_u64-base.result (c.args.at + 8) c.args.newest.now (omega (arith, c.requires.some));
}

pub returns-in_err-read_gate-clause-asks : goal.returns-in_err-read_gate-clause-asks
returns-in_err-read_gate-clause-asks g c = asks_on g.W.Outside g.met.W.Outside.fewer_later c.args.outside.now c.loop-count.outside c.read_gate.new.outside c.loop-count.invariant.asks c.read_gate.ensures.asks

pub returns-in-Closed-clause-asks : goal.returns-in-Closed-clause-asks
returns-in-Closed-clause-asks g c = asks_on g.W.Outside g.met.W.Outside.fewer_later c.args.outside.now c.loop-count.outside c.read_gate.new.outside c.loop-count.invariant.asks c.read_gate.ensures.asks

pub returns-in-Wrong-clause-asks : goal.returns-in-Wrong-clause-asks
returns-in-Wrong-clause-asks g c = asks_on g.W.Outside g.met.W.Outside.fewer_later c.args.outside.now c.loop-count.outside c.read_gate.new.outside c.loop-count.invariant.asks c.read_gate.ensures.asks

pub returns-in-Closed-clause-found : goal.returns-in-Closed-clause-found
unfolding whole
returns-in-Closed-clause-found g c some =
    let at = (goal.at.returns-in-Closed-clause-found g c).After-read_gate in
    let found = rw c.in-Closed.is at (c.in_ok-read_gate.ensures.found (still g at some)) in
    let are =
    read_closed c.args.page (held_of g.W.Outside c.args.outside.now) (length c.args.newest.now) (c.args.at + 8 + c.args.bank_bytes) c.args.bank_bytes c.read_u64-base.result (c.args.at + 8) c.loop-count.count c.loop-count.gate (due g at) c.args.newest.now c.loop-count.newest (c.loop-count.invariant.reaches some) (due_is g at)
    c.read_gate.new.newest (sym (same_gate g at) ∙ found.0) found.1 in
    (base_is g at some, record { records = are.records; holds = sym (whole_is g at some) ∙ are.holds; count_is = are.count_is; noted = are.noted })

pub returns-in-Wrong-clause-found : goal.returns-in-Wrong-clause-found
unfolding whole
returns-in-Wrong-clause-found g c some =
    let at = (goal.at.returns-in-Wrong-clause-found g c).After-read_gate in
    let found = rw c.in-Wrong.is at (c.in_ok-read_gate.ensures.found (still g at some)) in
    sym (whole_is g at some)
    ∙ read_wrong c.args.page (held_of g.W.Outside c.args.outside.now) (length c.args.newest.now) (c.args.at + 8 + c.args.bank_bytes) c.args.bank_bytes c.read_u64-base.result (c.args.at + 8) c.loop-count.count c.loop-count.gate (due g at) c.args.newest.now c.loop-count.newest (c.loop-count.invariant.reaches some) (due_is g at)
    c.in-Wrong.offset (sym (same_gate g at) ∙ found)

pub loop-count-preserved : goal.loop-count-preserved
loop-count-preserved g c =
    let at = (goal.at.loop-count-preserved g c).After-read_gate in
    let next = rw c.in-Sound.is at c.in_ok-read_gate.ensures.next in
    record {
      asks = asks_on g.W.Outside g.met.W.Outside.fewer_later c.args.outside.now c.loop-count.outside c.read_gate.new.outside c.loop-count.invariant.asks c.read_gate.ensures.asks;
      no_fault = c.in_ok-read_gate.ensures.cause.done ∙ c.loop-count.invariant.no_fault;
      len = c.read_gate.ensures.len ∙ c.loop-count.invariant.len;
      placed = λ end few are. c.read_gate.ensures.placed end (omega (arith, few, c.from.ensures)) (c.loop-count.invariant.placed end few are);
      far = omega (arith, c.loop-count.invariant.far, next.0);
      inside = omega (arith, next.1, c.from.ensures);
      reaches = λ some. let found = rw c.in-Sound.is at (c.in_ok-read_gate.ensures.found (still g at some)) in
          read_sound c.args.page (held_of g.W.Outside c.args.outside.now) (length c.args.newest.now) (c.args.at + 8 + c.args.bank_bytes) c.args.bank_bytes c.read_u64-base.result (c.args.at + 8) c.loop-count.count c.loop-count.gate (due g at) c.args.newest.now c.loop-count.newest (c.loop-count.invariant.reaches some) (due_is g at)
          c.read_gate.new.newest found.0 c.in-Sound.next c.loop-count-test.true (sym (same_gate g at) ∙ found.1) found.2;
    }

pub returns-in-Wrong-clause-placed : goal.returns-in-Wrong-clause-placed
returns-in-Wrong-clause-placed g c = grind arith

pub returns-in-Closed-clause-placed : goal.returns-in-Closed-clause-placed
returns-in-Closed-clause-placed g c = grind arith

pub read_gate-requires-clause-room : goal.read_gate-requires-clause-room
read_gate-requires-clause-room g c = grind arith
