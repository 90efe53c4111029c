use Rattle.storage_unit.proofs.Lemmas.{◌≡◌, ℕ, ◌+◌, ◌-◌, ◌*◌, Some, sym, ◌∙◌, ap, arith, seat_pages, reach_of, nat_tests, finds-own, unit-sound}
use Rattle.storage_unit.proofs.unit.Unit.private_frame.Goals as goal

pub returns : goal.returns
returns c =
    let unit = c.args.self.now in
    let (seat, runner, few, segment, begun, fits) = c.requires.lies.private c.requires.own in
    let frame : c.first_frame.result + c.args.first.page ≡ seat * seat_pages unit.directory.page + c.args.first.page =
    ap (λ n. n + c.args.first.page) (c.first_frame.ensures.value ∙ ap (λ s. (unit.runner - 1) * seat_pages s) c.page.ensures ∙ ap (λ n. n * seat_pages unit.directory.page) (omega (arith, runner))) in
    finds-own (reach_of unit) (unit-sound unit) c.args.first 1 (omega arith) c.requires.lies seat runner c.requires.own ∙ sym (ap (λ (n : ℕ). Some n) frame)

pub overflow_add-result : goal.overflow_add-result
overflow_add-result c = grind (arith, nat_tests)

pub overflow_cast-result : goal.overflow_cast-result
overflow_cast-result c = grind (arith, nat_tests)

pub overflow_sub-self : goal.overflow_sub-self
overflow_sub-self c = grind (arith, nat_tests)
