use Rattle.storage_unit.proofs.Lemmas.{◌≡◌, ℕ, ◌≤◌, true, arith, nat_tests, is_private, reach_of, private-kept}
use Rattle.storage_unit.proofs.unit.Unit.first_refused.Goals as goal

own : (segment : ℕ) → 3840 ≤ segment → is_private segment ≡ true
own segment above = grind (arith, nat_tests, above)

pub returns-then-first-ge-PRIVATE : goal.returns-then-first-ge-PRIVATE
returns-then-first-ge-PRIVATE c = private-kept (reach_of c.args.self.now) c.args.first c.args.bytes c.args.store (own c.args.first.segment c.if-first-ge-PRIVATE.true)

pub first_refused_from-requires : goal.first_refused_from-requires
first_refused_from-requires c = grind (arith, nat_tests)

pub returns : goal.returns
returns c = grind (arith, nat_tests)
