use Rattle.storage_unit.proofs.Lemmas.{◌≡◌, ℕ, ◌+◌, ◌/◌, ◌%◌, sym, ◌∙◌, ap, arith, Some, None, ◌<◌, not, start_of, line_of, page_of, page_bytes, line_bytes, grant_of, lets, Authority, entry_at, Virtual, Unit, offset_of, on, is_kept_from, reach_of, page-found, place-below, place-byte, shared-is, line-in, rest-on, same-page-on, page-of-line, page-below, unit-sound}
use Rattle.storage_unit.proofs.unit.Unit.is_kept_in.Goals as goal

abbrev place : Unit → Virtual → ℕ
place unit at = start_of unit.directory at.segment + offset_of unit.directory.page at

same : {A : Type 0} (a b : A) → Some a ≡ Some b → a ≡ b
same a b is = cc

pub authority-requires : goal.authority-requires
authority-requires c =
    let unit = c.args.self.now in
    let found = page-found (reach_of unit) (unit-sound unit) c.args.first c.args.frame c.requires.lies c.requires.shared c.requires.frame in
    let page : c.in-Some.page ≡ page_of unit.directory (place unit c.args.first) = same _ _ (sym c.in-Some.is ∙ c.page_in.ensures ∙ found) in
    omega (arith, unit.entries, page, page-below unit.directory (place unit c.args.first) (place-below (reach_of unit) (unit-sound unit) c.args.first 1 (omega arith) c.requires.lies c.requires.shared))

pub returns-in-Some : goal.returns-in-Some
returns-in-Some c =
    let unit = c.args.self.now in
    let at = place unit c.args.first in
    let size = unit.directory.page in
    let byte : at % page_bytes size ≡ c.args.first.byte = place-byte (reach_of unit) (unit-sound unit) c.args.first 1 (omega arith) c.requires.lies in
    let found = page-found (reach_of unit) (unit-sound unit) c.args.first c.args.frame c.requires.lies c.requires.shared c.requires.frame in
    let inside : at % page_bytes size + c.args.past < page_bytes size = omega (arith, byte, c.requires.within) in
    let page : c.in-Some.page ≡ page_of unit.directory (at + c.args.past) = same _ _ (sym c.in-Some.is ∙ c.page_in.ensures ∙ found) ∙ sym (same-page-on size at c.args.past inside) in
    let line : c.line_at-line.result ≡ line_of unit.directory (at + c.args.past) % 16 =
    c.line_at-line.ensures.value ∙ ap (λ s. (c.args.first.byte + c.args.past) / line_bytes s) c.page.ensures
    ∙ sym (line-in size (at + c.args.past) (c.args.first.byte + c.args.past) (rest-on size at c.args.past inside ∙ ap (λ n. n + c.args.past) byte)) in
    ap not
    (c.permits.ensures
    ∙ ap (λ (entry : Authority). lets (grant_of entry) unit.runner c.line_at-line.result c.args.store) c.authority.ensures
    ∙ ap (λ p. lets (grant_of (entry_at unit.table p)) unit.runner c.line_at-line.result c.args.store) (page ∙ sym (page-of-line size (at + c.args.past)))
    ∙ ap (λ l. lets (grant_of (entry_at unit.table (line_of unit.directory (at + c.args.past) / 16))) unit.runner l c.args.store) line)
    ∙ sym (ap (λ p. is_kept_from (reach_of unit) (on p c.args.past) c.args.store) (shared-is unit.directory c.args.first c.requires.shared))

pub returns-in-None : goal.returns-in-None
returns-in-None c =
    let none-some : (n : ℕ) → None ≡ Some n → ⊥ = λ n is. cc in
    let unit = c.args.self.now in
    absurd (none-some _ (sym c.in-None.is ∙ c.page_in.ensures ∙ page-found (reach_of unit) (unit-sound unit) c.args.first c.args.frame c.requires.lies c.requires.shared c.requires.frame))
