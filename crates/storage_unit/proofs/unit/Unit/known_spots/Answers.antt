use Rattle.storage_unit.proofs.Lemmas.{◌+◌, ◌%◌, ◌≤◌, ◌∙◌, sym, ap, arith, subst, page_bytes, opened-line, opened-pair}
use Rattle.storage_unit.proofs.unit.Unit.known_spots.Goals as goal

pub returns-then-offset-from-le128 : goal.returns-then-offset-from-le128
returns-then-offset-from-le128 c =
    let wants = c.args.wants.now in
    let fits : wants.address % 128 + wants.bytes ≤ 128 = omega (arith, c.if-offset-from-le128.true, c.from.ensures) in
    opened-line c.args.self.now wants c.in_ok-spot.spot c.requires.0 fits (sym c.at.ensures ∙ c.in_ok-spot.was)

pub returns : goal.returns
returns c =
    let wants = c.args.wants.now in
    let size = c.from-page.ensures ∙ c.bytes.ensures.value ∙ ap page_bytes c.page.ensures in
    let inside : wants.address % c.from-page.result + wants.bytes ≤ c.from-page.result = omega (arith, c.if-wants-page.false, c.from-2.ensures) in
    opened-pair c.args.self.now wants c.in_ok-spot.spot c.in_ok-_behind._behind c.requires.0 c.requires.1 (omega (arith, c.if-offset-from-le128.false, c.from.ensures))
    (subst (λ m. wants.address % m + wants.bytes ≤ m) size inside) (sym c.at.ensures ∙ c.in_ok-spot.was) (sym c.at-2.ensures ∙ c.in_ok-_behind.was)
