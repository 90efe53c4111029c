use Rattle.store_calls.proofs.Common.{IfSome, Layout, byte_count, length_of, start_of, Range, IsInside, ◌≡◌, ℕ, ◌+◌, ◌-◌, ◌≤◌, ◌^◌, Option, Some, ap, ◌∙◌, sym, subst, arith}
use Rattle.store_calls.proofs.show.place_of.Goals as goal

-- a range that lies in its segment lies in the store
placed : (directory : Layout) (range : Range) (bytes start : ℕ) → length_of directory range.segment ≡ Some bytes → start ≡ start_of directory range.segment → start + bytes ≤ byte_count directory → byte_count directory ≤ 2 ^ 22
    → range.count ≤ bytes → range.from ≤ bytes - range.count
    → IsInside directory range × (start + range.from ≡ start_of directory range.segment + range.from) × (start + range.from + range.count ≤ byte_count directory) × (start + range.from + range.count ≤ 2 ^ 22)
placed directory range bytes start found begins within small few inside = (
  (bytes, found, omega (arith, few, inside)),
  omega (arith, begins),
  omega (arith, within, few, inside),
  omega (arith, small, within, few, inside),
)

pub returns-then-range-length-2 : goal.returns-then-range-length-2
returns-then-range-length-2 c =
    let same = c.directory-directory.ensures.value in
    let names : c.in_ok-identifier.identifier ≡ c.args.range.now.segment = c.in_ok-identifier.ensures in
    let found : length_of c.directory-directory.result.now c.in_ok-identifier.identifier ≡ Some c.in_ok-length.length = sym c.length_of.ensures ∙ c.in_ok-length.was in
    let within : c.start_of.result + c.in_ok-length.length ≤ byte_count c.directory-directory.result.now = subst (λ (told : Option ℕ). IfSome told (λ bytes. c.start_of.result + bytes ≤ byte_count c.directory-directory.result.now)) found c.start_of.ensures.within in
    placed c.args.header.now.directory c.args.range.now c.in_ok-length.length c.start_of.result
    (ap (λ (n : ℕ). length_of c.args.header.now.directory n) (sym names) ∙ ap (λ (directory : Layout). length_of directory c.in_ok-identifier.identifier) (sym same) ∙ found)
    (c.start_of.ensures.value ∙ ap (λ (directory : Layout). start_of directory c.in_ok-identifier.identifier) same ∙ ap (λ (n : ℕ). start_of c.args.header.now.directory n) names)
    (subst (λ (directory : Layout). c.start_of.result + c.in_ok-length.length ≤ byte_count directory) same within)
    (subst (λ (directory : Layout). byte_count directory ≤ 2 ^ 22) same c.start_of.ensures.small)
    c.if-range-length.true c.if-range-length-2.true
