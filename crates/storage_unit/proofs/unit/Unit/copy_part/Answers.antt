use Rattle.storage_unit.proofs.Lemmas.{◌≡◌, ℕ, length, sym, ◌∙◌, Option, Some, None, reach_of, nat_tests, arith, common_steps, found-some, shown-long, unit-sound}
use Rattle.storage_unit.proofs.unit.Unit.copy_part.Goals as goal

pub copy_from_slice-requires : goal.copy_from_slice-requires
copy_from_slice-requires c = grind (arith, nat_tests, shown-long)

pub returns-in_default : goal.returns-in_default
returns-in_default c =
    let none-of : (o : Option ℕ) → ((n : ℕ) → o ≡ Some n → ⊥) → o ≡ None = λ o some. grind (arith, nat_tests) in
    let unit = c.args.self.now in
    absurd (found-some (reach_of unit) (unit-sound unit) c.args.first (length c.args.into.now) c.requires.can.some c.requires.can.lies c.requires.can.there
    (sym c.frame_at.ensures ∙ (none-of c.frame_at.result c.in_default.not-Some)))

pub frame_at-requires : goal.frame_at-requires
frame_at-requires c = grind (arith, common_steps)
