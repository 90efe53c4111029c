use Rattle.romp_table.proofs.Common.{ap, ◌∙◌, sym, rules, row_of}
use Rattle.romp_table.proofs.CodeLemmas.{legal_number, read_back}
use Rattle.romp_table.proofs.bytes.encode.Goals as goal

pub first_halfword-first-requires-clause-number : goal.first_halfword-first-requires-clause-number
first_halfword-first-requires-clause-number c =
    legal_number c.args.inst.now c.requires c.row_of-row.result (ap row_of (sym c.operation_of.ensures) ∙ c.row_of-row.ensures)

pub returns-clause-back : goal.returns-clause-back
returns-clause-back c = read_back c.args.inst.now c.requires (record { bytes = c.bytes_from.result; len = c.count_of.result }) (search rules)
