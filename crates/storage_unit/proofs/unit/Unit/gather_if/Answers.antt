use Rattle.storage_unit.proofs.Common.{ℕ, Option, IfSome, subst, reach_of, IsOpenSpot}
use Rattle.storage_unit.proofs.unit.Unit.gather_if.Goals.{In-Some}
use Rattle.storage_unit.proofs.unit.Unit.gather_if.Goals as goal

opened : (c : In-Some) → IsOpenSpot (reach_of c.args.self.now) c.args.wants.now c.in-Some.spot
opened c = subst (λ (o : Option ℕ). IfSome o (IsOpenSpot (reach_of c.args.self.now) c.args.wants.now)) c.in-Some.is c.requires.open

pub returns-in-Some : goal.returns-in-Some
returns-in-Some c = record { permitted = λ did. (opened (goal.at.returns-in-Some c).In-Some).opens.permitted; state = c.gather_over.ensures }
