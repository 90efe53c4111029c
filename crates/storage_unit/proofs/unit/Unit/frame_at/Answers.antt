use Rattle.storage_unit.proofs.Lemmas.{◌≡◌, false, sym, ◌∙◌, ap, arith, nat_tests, frame_at, page_of, is_private, reach_of, finds-shared, unit-sound}
use Rattle.storage_unit.proofs.unit.Unit.frame_at.Goals as goal

pub returns : goal.returns
returns c =
    let unit = c.args.self.now in
    let other : is_private c.args.first.segment ≡ false = grind (arith, nat_tests, c.if-first-ge-PRIVATE.false) in
    c.frame_of.ensures.value
    ∙ ap (frame_at unit.pool) (c.page_of-page.ensures ∙ ap (page_of unit.directory) c.place_of.ensures)
    ∙ sym (finds-shared (reach_of unit) (unit-sound unit) c.args.first 1 (omega arith) c.requires other)

pub page_of-page-requires : goal.page_of-page-requires
page_of-page-requires c = grind (arith, nat_tests)

pub private_frame-requires-clause-own : goal.private_frame-requires-clause-own
private_frame-requires-clause-own c = grind (arith, nat_tests)
