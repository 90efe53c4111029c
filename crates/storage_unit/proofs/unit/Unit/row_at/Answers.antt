use Rattle.storage_unit.proofs.Lemmas.{sym, ◌∙◌, reach_of, row-found, unit-sound}
use Rattle.storage_unit.proofs.unit.Unit.row_at.Goals as goal

pub returns-clause-row : goal.returns-clause-row
returns-clause-row c =
    let unit = c.args.self.now in
    row-found (reach_of unit) (unit-sound unit) c.args.address c.in_ok-first.first c.in_ok-second.second c.ready_of.result c.requires (sym c.in_ok-first.was ∙ c.fetch.ensures) (sym c.in_ok-second.was ∙ c.fetch-2.ensures) c.ready_of.ensures
