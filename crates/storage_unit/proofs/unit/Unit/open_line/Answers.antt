use Rattle.storage_unit.proofs.Lemmas.{nat_tests, ◌≡◌, ℕ, ◌+◌, ◌%◌, ◌≤◌, ◌^◌, ◌∙◌, ap, arith, PageSize, page_bytes, Virtual, reach_of, found, under, registers-page, unit-sound}
use Rattle.storage_unit.proofs.unit.Unit.open_line.Goals as goal

-- what ends within 128 bytes ends within its page
within : (size : PageSize) (address n : ℕ) → address % 128 + n ≤ 128 → address % 2 ^ 28 % page_bytes size + n ≤ page_bytes size
within size address n fits = grind (arith, nat_tests)

pub open-requires-clause-within : goal.open-requires-clause-within
open-requires-clause-within c =
    let unit = c.args.self.now in
    let wants = c.args.wants.now in
    let located = found unit wants c.from-bytes.result c.locate.result c.in-Ok.first c.from-bytes.ensures c.locate.ensures c.in-Ok.is in
    let at : c.in-Ok.first.byte ≡ wants.address % 2 ^ 28 % page_bytes unit.directory.page =
    ap (λ (v : Virtual). v.byte) (under unit.registers wants.address wants.bytes wants.store c.in-Ok.first located).is
    ∙ ap (λ size. wants.address % 2 ^ 28 % page_bytes size) (registers-page (reach_of unit) (unit-sound unit)) in
    omega (arith, at, within unit.directory.page wants.address wants.bytes (omega arith))
