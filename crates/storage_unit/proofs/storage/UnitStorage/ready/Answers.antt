use Rattle.storage_unit.proofs.Lemmas.{reach_of, unit-sound}
use Rattle.storage_unit.proofs.ReadyLemmas.{is-ready, is-lent}
use Rattle.storage_unit.proofs.storage.UnitStorage.ready.Goals as goal

pub returns : goal.returns
returns c =
    let unit = c.args.self.now in
    is-lent c.at.result (λ row. row.now) _ (is-ready (reach_of unit) (unit-sound unit) unit.rows unit.ready c.args.address _ c.at.ensures)
