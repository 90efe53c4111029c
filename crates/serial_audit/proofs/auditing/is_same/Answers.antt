use Rattle.serial_audit.proofs.Lemmas.{sym, ◌∙◌, ap, eq-eqb, Layout, eqb-true, layout_same}
use Rattle.serial_audit.proofs.auditing.is_same.Goals as goal

pub returns-then-are_alike : goal.returns-then-are_alike
returns-then-are_alike c =
    let alike = c.are_alike.ensures.0 c.if-are_alike.true in (
      λ same. layout_same c.args.one.now c.args.other.now alike.0 alike.1 (sym c.fine.ensures.value ∙ eqb-true c.fine.result c.fine-then-are_alike.result same ∙ c.fine-then-are_alike.ensures.value),
      λ is. eq-eqb c.fine.result c.fine-then-are_alike.result (c.fine.ensures.value ∙ ap (λ (d : Layout). d.fine) is ∙ sym c.fine-then-are_alike.ensures.value),
    )
