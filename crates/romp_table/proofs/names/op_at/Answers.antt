use Rattle.romp_table.proofs.Common.{ap, sym, ◌∙◌, elements, arith, slice_index}
use Rattle.romp_table.proofs.NameLemmas.{not_named}
use Rattle.romp_table.proofs.names.op_at.Goals as goal

pub returns-else-eq-clause-none : goal.returns-else-eq-clause-none
returns-else-eq-clause-none c = λ row there.
    not_named c.args.rows.now c.from.result _ c.in_ok-op.field-0.now row c.as_bytes.result.now c.args.word.now (c.from.ensures ∙ ap (slice_index c.args.slots.now) c.slot_of.ensures.value) c.in_ok-op.ensures.lookup.1 there
    (c.as_bytes.ensures.value ∙ c.name_of.ensures.value) (sym c.eq.ensures ∙ c.if-eq.false)

pub returns-in_err-op-clause-none : goal.returns-in_err-op-clause-none
returns-in_err-op-clause-none c = grind (arith, elements)
