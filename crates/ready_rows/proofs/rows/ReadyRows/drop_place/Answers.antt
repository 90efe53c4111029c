use Rattle.std.proofs.Common.{sym, arith, ◌∙◌}
use Rattle.std.proofs.lemmas.Option.{slice_get_read}
use Rattle.ready_rows.specs.Known.{known}
use Rattle.ready_rows.proofs.RowLemmas.{row_in-dropped, row_in-stays}
use Rattle.ready_rows.proofs.rows.ReadyRows.drop_place.Goals as goal

pub returns-then-is_met : goal.returns-then-is_met
unfolding known
returns-then-is_met c address =
    let places = c.args.self.now.places.items in
    let there = slice_get_read places 512 c.args.index c.index.result.now (omega (arith, c.args.self.now.sized)) c.requires.place c.index.ensures in
    c.empty.ensures.known address
    ∙ row_in-dropped places c.args.index c.args.offset c.args.bytes c.index.result.now address there (sym c.is_met.ensures ∙ c.if-is_met.true)

pub returns-else-is_met : goal.returns-else-is_met
unfolding known
returns-else-is_met c address =
    let places = c.args.self.now.places.items in
    let there = slice_get_read places 512 c.args.index c.index.result.now (omega (arith, c.args.self.now.sized)) c.requires.place c.index.ensures in
    row_in-stays places c.args.index c.args.offset c.args.bytes c.index.result.now address there (sym c.is_met.ensures ∙ c.if-is_met.false)
