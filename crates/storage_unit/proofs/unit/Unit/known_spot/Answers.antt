use Rattle.storage_unit.proofs.Lemmas.{◌+◌, ◌%◌, ◌≤◌, ◌∙◌, sym, arith, opened-line}
use Rattle.storage_unit.proofs.unit.Unit.known_spot.Goals as goal

pub returns : goal.returns
returns c =
    let wants = c.args.wants.now in
    let fits : wants.address % 128 + wants.bytes ≤ 128 = omega (arith, c.if-offset-from-gt128.false, c.from.ensures) in
    opened-line c.args.self.now wants c.in_ok-spot.spot c.requires fits (sym c.at.ensures ∙ c.in_ok-spot.was)
