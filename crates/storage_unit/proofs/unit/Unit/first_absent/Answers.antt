use Rattle.storage_unit.proofs.Lemmas.{◌≡◌, sym, ◌∙◌, arith, bytes_on, is_absent, reach_of, nat_tests, absent-first, none-absent, absent-next, none-next, unit-sound}
use Rattle.storage_unit.proofs.unit.Unit.first_absent.Goals.{After-is_absent-2}
use Rattle.storage_unit.proofs.unit.Unit.first_absent.Goals as goal

pub returns-then-is_absent-clause-value : goal.returns-then-is_absent-clause-value
returns-then-is_absent-clause-value c = absent-first (reach_of c.args.self.now) (unit-sound c.args.self.now) c.args.first c.args.bytes (omega (arith, c.if-bytes-eq0.false)) (omega (arith, c.ranges.bytes.fits)) c.requires (sym c.is_absent.ensures.value ∙ c.if-is_absent.true)

pub returns-then-from-rest-clause-value : goal.returns-then-from-rest-clause-value
returns-then-from-rest-clause-value c =
    none-absent (reach_of c.args.self.now) (unit-sound c.args.self.now) c.args.first c.args.bytes (omega (arith, c.if-bytes-eq0.false)) (omega (arith, c.ranges.bytes.fits)) c.requires (sym c.is_absent.ensures.value ∙ c.if-is_absent.false) (omega (arith, c.if-from-rest.true, c.from.ensures, c.rest-rest.ensures))

-- whether the page behind the first is in no frame
past_is : (c : After-is_absent-2) → is_absent (reach_of c.args.self.now) (bytes_on c.args.self.now.directory.page c.args.first c.rest-rest.result) ≡ c.is_absent-2.result
past_is c = grind (arith, nat_tests)

pub returns-then-is_absent-2-clause-value : goal.returns-then-is_absent-2-clause-value
returns-then-is_absent-2-clause-value c =
    absent-next (reach_of c.args.self.now) (unit-sound c.args.self.now) c.args.first c.args.bytes (omega (arith, c.if-bytes-eq0.false)) (omega (arith, c.ranges.bytes.fits)) c.requires c.rest-rest.result c.rest-rest.ensures (omega (arith, c.if-from-rest.false, c.from.ensures))
    (sym c.is_absent.ensures.value ∙ c.if-is_absent.false) (past_is (goal.at.returns-then-is_absent-2-clause-value c).After-is_absent-2 ∙ c.if-is_absent-2.true)

pub returns-else-is_absent-2-clause-value : goal.returns-else-is_absent-2-clause-value
returns-else-is_absent-2-clause-value c =
    none-next (reach_of c.args.self.now) (unit-sound c.args.self.now) c.args.first c.args.bytes (omega (arith, c.if-bytes-eq0.false)) (omega (arith, c.ranges.bytes.fits)) c.requires c.rest-rest.result c.rest-rest.ensures (omega (arith, c.if-from-rest.false, c.from.ensures))
    (sym c.is_absent.ensures.value ∙ c.if-is_absent.false) (past_is (goal.at.returns-else-is_absent-2-clause-value c).After-is_absent-2 ∙ c.if-is_absent-2.false)

pub past-requires : goal.past-requires
past-requires c = grind (arith, nat_tests)
