use Rattle.storage_unit.proofs.Lemmas.{false, length, sym, ◌∙◌, reach_of, arith, common_steps, begins, range-shown, unit-sound}
use Rattle.storage_unit.proofs.storage.UnitStorage.load.Goals as goal

pub copy-requires : goal.copy-requires
copy-requires c =
    let b = begins (reach_of c.args.self.now) (unit-sound c.args.self.now) c.args.address (length c.args.into.now) false c.in-Ok.first c.requires (sym c.locate.ensures ∙ c.in-Ok.is) in
    record { some = grind (arith, common_steps); lies = b.lies; there = b.there }

pub returns-in-Ok : goal.returns-in-Ok
returns-in-Ok c = c.copy.ensures ∙ range-shown (reach_of c.args.self.now) (unit-sound c.args.self.now) c.args.address (length c.args.into.now) c.in-Ok.first (begins (reach_of c.args.self.now) (unit-sound c.args.self.now) c.args.address (length c.args.into.now) false c.in-Ok.first c.requires (sym c.locate.ensures ∙ c.in-Ok.is)).under

pub returns-then-is_empty : goal.returns-then-is_empty
returns-then-is_empty c = grind (arith, common_steps)
