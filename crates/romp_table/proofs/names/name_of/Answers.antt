use Rattle.romp_table.proofs.Common.{ap, ◌∙◌, op_named}
use Rattle.romp_table.proofs.NameLemmas.{mnemonic_at_place, named_back}
use Rattle.romp_table.proofs.names.name_of.Goals as goal

pub returns-clause-value : goal.returns-clause-value
returns-clause-value c = mnemonic_at_place c.args.op _ c.name_at.ensures

pub returns-clause-back : goal.returns-clause-back
returns-clause-back c = ap op_named (mnemonic_at_place c.args.op _ c.name_at.ensures) ∙ named_back c.args.op
