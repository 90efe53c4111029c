use Rattle.storage_unit.proofs.Lemmas.{◌∙◌, ap, frame_part, reach_of, found-below, part-shown, unit-sound}
use Rattle.storage_unit.proofs.unit.Unit.part_in.Goals as goal

pub part-requires-clause-frame : goal.part-requires-clause-frame
part-requires-clause-frame c =
    let unit = c.args.self.now in
    found-below (reach_of unit) c.args.first c.args.frame (unit-sound unit) c.requires.frame

pub returns : goal.returns
returns c =
    let unit = c.args.self.now in
    c.part.ensures
    ∙ ap (λ byte. frame_part unit.pool c.args.frame byte c.args.count) c.from.ensures
    ∙ part-shown (reach_of unit) (unit-sound unit) c.args.first c.args.count c.requires.some c.requires.lies c.args.frame c.requires.frame c.requires.within
