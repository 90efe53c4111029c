use Rattle.store.proofs.Lemmas.{◌≡◌, ◌+◌, ◌*◌, ◌∷◌, [], List, ℕ, length, ◌∙◌, ap, overlaid, number_at, entry_bytes, common_steps, arith, nat_tests, lines_stay, numbered}
use Rattle.store.proofs.record_bytes.fill.Goals as goal

whole : (c : goal.After-write-2) → c.write-2.new.self ≡ overlaid (overlaid c.args.body.now 0 c.head_of-head.result) (10 + entry_bytes c.args.page * c.args.count) (0 ∷ [])
whole c = grind (arith, nat_tests)

pub returns-clause-numbered : goal.returns-clause-numbered
returns-clause-numbered c =
    ap (λ (these : List ℕ). number_at these 2 8) (whole c)
    ∙ numbered c.args.page c.args.body.now c.head_of-head.result c.args.count c.requires (ap length c.head_of-head.ensures) c.args.count c.args.due c.head_of-head.ensures c.ranges.due.fits

pub returns-clause-lines : goal.returns-clause-lines
returns-clause-lines c = grind (arith, nat_tests, lines_stay)

pub returns-clause-counted : goal.returns-clause-counted
returns-clause-counted c = grind (arith, common_steps)
