use Rattle.romp_table.proofs.Common.{sym, ap, ◌∙◌, subst, arith, BeginWith, encoded, has_uses, instruction_by, common_steps}
use Rattle.romp_table.proofs.CodeLemmas.{none_used, legal_of, begins_of}
use Rattle.romp_table.proofs.bits.decode_as.Goals as goal

pub returns-then-uses_its_fields : goal.returns-then-uses_its_fields
returns-then-uses_its_fields c =
    let is = c.inst_by-inst.ensures.value ∙ ap (λ format. instruction_by c.args.row.now.op format c.args.first c.args.second) c.requires.format in
    let widths = c.inst_by-inst.ensures.widths in
    let read = legal_of c.args.first c.args.second (omega arith) c.args.row.now c.requires.row _ is widths (sym c.uses_its_fields.ensures ∙ c.if-uses_its_fields.true) in
    let begins = begins_of c.args.first c.args.second (omega arith) (omega arith) c.args.row.now c.requires.row in
    let written = subst (λ inst. BeginWith c.args.first c.args.second (encoded inst)) (sym is) begins in
    record { value = grind (arith, common_steps); legal = read; widths = widths; back = written; none = tt }

pub returns-else-uses_its_fields : goal.returns-else-uses_its_fields
returns-else-uses_its_fields c =
    let is = c.inst_by-inst.ensures.value ∙ ap (λ format. instruction_by c.args.row.now.op format c.args.first c.args.second) c.requires.format in
    let unused = ap (has_uses c.args.row.now) (sym is) ∙ sym c.uses_its_fields.ensures ∙ c.if-uses_its_fields.false in
    let nothing = none_used c.args.first c.args.second (omega arith) c.args.row.now c.requires.row unused in
    record { value = grind (arith, common_steps); legal = tt; widths = tt; back = tt; none = nothing }
