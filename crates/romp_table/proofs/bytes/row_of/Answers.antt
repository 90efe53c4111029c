use Rattle.romp_table.proofs.Common.{◌∙◌}
use Rattle.romp_table.proofs.TableLemmas.{row_of_place}
use Rattle.romp_table.proofs.bytes.row_of.Goals as goal

pub returns : goal.returns
returns c = row_of_place c.args.op ∙ c.row_among.ensures
