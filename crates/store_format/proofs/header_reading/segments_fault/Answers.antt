use Rattle.store_format.proofs.Lemmas.{◌≡◌, ℕ, ◌+◌, ◌*◌, ◌∷◌, [], ◌∙◌, sym, ap, arith, is_some, min, Option, within, first_fault, wrong_identifier, wrong_pages, right_segment}
use Rattle.store_format.proofs.header_reading.segments_fault.Goals as goal
use Rattle.store_format.proofs.header_reading.segments_fault.Goals.{After-is_some, After-is_some-in-loop-i}

place : (c : goal.After-is_some) → 16 + 4 * c.from.result ≡ 16 + 4 * c.loop-i.i
place c = omega (arith, c.from.ensures)

-- the fault of the identifier, and that of the number of pages
first : (c : goal.After-is_some) → c.number_fault-fault.result ≡ first_fault c.args.length (within (16 + 4 * c.from.result) 2 c.segment_at-identifier.result.0 c.loop-i.least 3839 ∷ [])
first c = cc (c.number_fault-fault.ensures, c.into.ensures, c.into-in-loop-i.ensures)

second : (c : goal.After-is_some-in-loop-i) → c.number_fault-fault-in-loop-i.result ≡ first_fault c.args.length (within (16 + 4 * c.from.result + 2) 2 c.segment_at-identifier.result.1 1 (min c.loop-i.room 128) ∷ [])
second c = cc (c.number_fault-fault-in-loop-i.ensures, c.into-in-loop-i-2.ensures, c.into-in-loop-i-3.ensures, c.min.ensures)

pub returns-then-is_some : goal.returns-then-is_some
returns-then-is_some c =
    let at = (goal.at.returns-then-is_some c).After-is_some in
    cc (first at, wrong_identifier c.args.head.now c.args.length c.args.count c.loop-i.i c.loop-i.least c.loop-i.room c.segment_at-identifier.result.0 c.segment_at-identifier.result.1 (16 + 4 * c.from.result) c.loop-i-test.true (place at) (ap (λ (p : ℕ × ℕ). p.0) c.segment_at-identifier.ensures) (ap (λ (p : ℕ × ℕ). p.1) c.segment_at-identifier.ensures) (ap (λ (fault : Option ℕ). is_some fault) (sym (first at)) ∙ sym c.is_some.ensures ∙ c.if-is_some.true), c.loop-i.invariant.fault)

pub returns-then-is_some-2 : goal.returns-then-is_some-2
returns-then-is_some-2 c =
    let one = (goal.at.returns-then-is_some-2 c).After-is_some in
    let two = (goal.at.returns-then-is_some-2 c).After-is_some-in-loop-i in
    cc (second two, wrong_pages c.args.head.now c.args.length c.args.count c.loop-i.i c.loop-i.least c.loop-i.room c.segment_at-identifier.result.0 c.segment_at-identifier.result.1 (16 + 4 * c.from.result) c.loop-i-test.true (place one) (ap (λ (p : ℕ × ℕ). p.0) c.segment_at-identifier.ensures) (ap (λ (p : ℕ × ℕ). p.1) c.segment_at-identifier.ensures) (ap (λ (fault : Option ℕ). is_some fault) (sym (first one)) ∙ sym c.is_some.ensures ∙ c.if-is_some.false) (ap (λ (fault : Option ℕ). is_some fault) (sym (second two)) ∙ sym c.is_some-in-loop-i.ensures ∙ c.if-is_some-2.true), c.loop-i.invariant.fault)

pub loop-i-preserved : goal.loop-i-preserved
loop-i-preserved c =
    let one = (goal.at.loop-i-preserved c).After-is_some in
    let two = (goal.at.loop-i-preserved c).After-is_some-in-loop-i in
    record {
      fault =
          right_segment c.args.head.now c.args.length c.args.count c.loop-i.i c.loop-i.least c.loop-i.room c.segment_at-identifier.result.0 c.segment_at-identifier.result.1 (16 + 4 * c.from.result) c.loop-i-test.true (place one)
          (ap (λ (p : ℕ × ℕ). p.0) c.segment_at-identifier.ensures) (ap (λ (p : ℕ × ℕ). p.1) c.segment_at-identifier.ensures)
          (ap (λ (fault : Option ℕ). is_some fault) (sym (first one)) ∙ sym c.is_some.ensures ∙ c.if-is_some.false)
          (ap (λ (fault : Option ℕ). is_some fault) (sym (second two)) ∙ sym c.is_some-in-loop-i.ensures ∙ c.if-is_some-2.false)
          ∙ c.loop-i.invariant.fault;
      room = omega arith;
    }
