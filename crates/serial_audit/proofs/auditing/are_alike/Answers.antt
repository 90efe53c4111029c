use Rattle.serial_audit.proofs.Lemmas.{sym, ◌∙◌, rules, slice_eq-Decides, pair_decides}
use Rattle.lines.specs.contracts.line_geometry.PageSize.{the_type}
use denote.Enum.Bare.{same_true}
use Rattle.serial_audit.proofs.auditing.are_alike.Goals as goal

pub returns-then-eq : goal.returns-then-eq
returns-then-eq c =
    let decides = slice_eq-Decides pair_decides c.segments.result.now c.segments-then-eq.result.now c.eq-then-eq.result c.eq-then-eq.ensures in
    let page = same_true the_type (search rules) _ _ (sym c.if-eq.ensures) in (
      λ same. (sym c.page.ensures ∙ page ∙ c.page-2.ensures, sym c.segments.ensures.value ∙ decides.0 same ∙ c.segments-then-eq.ensures.value),
      λ is. decides.1 (c.segments.ensures.value ∙ is.1 ∙ sym c.segments-then-eq.ensures.value),
    )
