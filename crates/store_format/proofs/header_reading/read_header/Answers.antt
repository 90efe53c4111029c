use Rattle.store_format.proofs.Lemmas.{common_steps, ◌≡◌, ℕ, ◌∙◌, sym, ap, length, List, take, Option, None, Some, IsSome, held_of, fields, first_fault, header_of, padded_fault, padded_header, faulty_header, faulty_length, arith, nat_tests}
use Rattle.store_format.proofs.header_reading.read_header.Given.{Over}
use Rattle.store_format.proofs.header_reading.read_header.Goals as goal
use Rattle.store_format.proofs.header_reading.read_header.Goals.{After-header_fault, After-total-total}

-- the fault that was found is that of the bytes held
found : (g : Over) (c : goal.After-header_fault g) → IsSome (g.W.Outside.held c.args.outside.now)
    → first_fault (length (held_of g.W.Outside c.args.outside.now)) (fields (take 128 (held_of g.W.Outside c.args.outside.now))) ≡ c.header_fault.result
found g c told =
    let held = held_of g.W.Outside c.args.outside.now in
    sym (c.header_fault.ensures
    ∙ ap (λ (n : ℕ). first_fault n (fields c.in-Ok.read.1)) (c.in-Ok.ensures.read told).number
    ∙ ap (λ (head : List ℕ). first_fault (length held) (fields head)) (c.in-Ok.ensures.read told).head
    ∙ padded_fault held)

none_is : (fault : Option ℕ) → ((offset : ℕ) → fault ≡ Some offset → ⊥) → fault ≡ None
none_is fault none = grind (arith, nat_tests)

said : (g : Over) (c : goal.After-total-total g) → IsSome (g.W.Outside.held c.args.outside.now) → header_of (take 128 (held_of g.W.Outside c.args.outside.now)) ≡ c.header_in-header.result
said g c told =
    sym (padded_header (held_of g.W.Outside c.args.outside.now)) ∙ ap (λ (head : List ℕ). header_of head) (sym (c.in-Ok.ensures.read told).head) ∙ c.header_in-header.ensures

pub returns-in-Some-clause-asks : goal.returns-in-Some-clause-asks
returns-in-Some-clause-asks g c = record {
  asks = c.read_head.ensures.asks;
  no_fault = grind (arith, common_steps);
  fault = λ told.
      faulty_header (held_of g.W.Outside c.args.outside.now) c.in-Some.offset (found g (goal.at.returns-in-Some-clause-asks g c).After-header_fault told ∙ c.in-Some.is);
  calm = grind (arith, common_steps);
}

pub header_in-header-requires : goal.header_in-header-requires
header_in-header-requires g c = (c.in-Ok.read.0, sym c.header_fault.ensures ∙ none_is c.header_fault.result c.in_default.not-Some)

pub returns-else-length-total-clause-asks : goal.returns-else-length-total-clause-asks
returns-else-length-total-clause-asks g c = record {
  asks = c.read_head.ensures.asks;
  no_fault = grind (arith, common_steps);
  fault = λ told.
      let at = goal.at.returns-else-length-total-clause-asks g c in
      let held = held_of g.W.Outside c.args.outside.now in
      let bytes = (c.in-Ok.ensures.read told).number in
      cc (faulty_length held c.header_in-header.result (found g at.After-header_fault told ∙ none_is c.header_fault.result c.in_default.not-Some) (said g at.After-total-total told) (λ same. c.if-length-total.false (bytes ∙ same ∙ sym c.total-total.ensures.value)), bytes, c.total-total.ensures.value, c.min.ensures);
  calm = grind (arith, common_steps);
}

pub returns-then-length-total-clause-header : goal.returns-then-length-total-clause-header
returns-then-length-total-clause-header g c told =
    let at = goal.at.returns-then-length-total-clause-header g c in
    record {
      sound = found g at.After-header_fault told ∙ none_is c.header_fault.result c.in_default.not-Some;
      said = said g at.After-total-total told;
      whole = sym (c.in-Ok.ensures.read told).number ∙ c.if-length-total.true ∙ c.total-total.ensures.value;
    }
