use Rattle.serial_audit.proofs.Lemmas.{◌≡◌, sym, ◌∙◌, Decides-eqb, slice_eq-Decides, head_text, sizes_of, arith, common_steps, head_written}
use Rattle.serial_audit.proofs.bundle.Lengths.are_told.Goals as goal

pub returns-clause-told : goal.returns-clause-told
returns-clause-told c =
    let written : c.as_slice.result.now ≡ head_text (sizes_of c.args.self.now) =
    rw (c.as_slice.ensures, c.end.ensures, c.number-4.ensures.value, c.number-3.ensures.value, c.number-2.ensures.value, c.number.ensures.value, c.begin.ensures)
    (head_written (sizes_of c.args.self.now)) in
    let decides = slice_eq-Decides Decides-eqb c.args.line.now c.as_slice.result.now c.eq.result c.eq.ensures in
    (λ same. decides.0 same ∙ written, λ is. decides.1 (is ∙ sym written))

pub returns-clause-short : goal.returns-clause-short
returns-clause-short c = grind (arith, common_steps)
