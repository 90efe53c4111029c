use Rattle.store.proofs.Lemmas.{arith, inl, inr, cases_lt, nat_tests, elements, ◌≡◌, none_of}
use Rattle.store.proofs.places.Places.first_from.Goals as goal

pub loop-line-preserved : goal.loop-line-preserved
loop-line-preserved c = record {
  low = omega (arith, c.loop-line.invariant.low);
  before = λ k low high. elim (cases_lt k c.loop-line.line) [
    | inl earlier ↦ c.loop-line.invariant.before k low earlier
    | inr here ↦ let same : k ≡ c.loop-line.line = omega (arith, here, high) in grind (arith, nat_tests, elements, c.self.view_is, same, none_of)
  ];
}
