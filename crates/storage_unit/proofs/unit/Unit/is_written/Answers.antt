use Rattle.storage_unit.proofs.Lemmas.{◌≡◌, ℕ, ◌+◌, ◌/◌, ◌%◌, List, sym, ◌∙◌, ap, arith, None, Some, line_bytes, start_of, page_of, line_of, page_of_line, has, some-within, marks_at, offset_of, reach_of, page-of-line, line-in, place-byte, page-found, unit-sound}
use Rattle.storage_unit.proofs.unit.Unit.is_written.Goals as goal

same : (a b : ℕ) → Some a ≡ Some b → a ≡ b
same a b is = cc

pub written-requires : goal.written-requires
written-requires c =
    let pool = c.args.self.now.pool in
    some-within pool.frame_of c.in-Some.page c.args.frame (c.args.self.now.fits.seen.back c.in-Some.page c.args.frame (sym c.page_in.ensures ∙ c.in-Some.is))

pub returns-in-Some-clause-marked : goal.returns-in-Some-clause-marked
returns-in-Some-clause-marked c = λ is own.
    let unit = c.args.self.now in
    let size = unit.directory.page in
    let at = start_of unit.directory c.args.first.segment + offset_of size c.args.first in
    let found = page-found (reach_of unit) (unit-sound unit) c.args.first c.args.frame c.requires.lies own c.requires.frame in
    let page : c.in-Some.page ≡ page_of unit.directory at = same _ _ (sym c.in-Some.is ∙ c.page_in.ensures ∙ found) in
    let line : c.line_at-line.result ≡ line_of unit.directory at % 16 =
    c.line_at-line.ensures.value ∙ ap (λ s. c.args.first.byte / line_bytes s) c.page.ensures
    ∙ sym (line-in size at c.args.first.byte (place-byte (reach_of unit) (unit-sound unit) c.args.first 1 (omega arith) c.requires.lies)) in
    ap (λ l. has (marks_at unit.pool (page_of_line (line_of unit.directory at))) l) (sym line)
    ∙ ap (λ p. has (marks_at unit.pool p) c.line_at-line.result) (page-of-line size at ∙ sym page)
    ∙ ap (λ (set : List ℕ). has set c.line_at-line.result) (sym c.written.ensures)
    ∙ sym c.contains.ensures.value ∙ is

pub returns-in-None-clause-marked : goal.returns-in-None-clause-marked
returns-in-None-clause-marked c = λ is own.
    let unit = c.args.self.now in
    absurd (none-some _ (sym c.in-None.is ∙ c.page_in.ensures ∙ page-found (reach_of unit) (unit-sound unit) c.args.first c.args.frame c.requires.lies own c.requires.frame))
  where
    none-some : (n : ℕ) → None ≡ Some n → ⊥
    none-some n is = cc
