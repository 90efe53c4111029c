use Rattle.romp_table.proofs.NameLemmas.{named_as, named_none}
use Rattle.romp_table.proofs.names.by_name.Goals as goal

pub returns-clause-value : goal.returns-clause-value
returns-clause-value c = named_as c.args.word.now _ c.op_at.ensures.some c.op_at.ensures.none

pub returns-clause-some : goal.returns-clause-some
returns-clause-some c = c.op_at.ensures.some

pub returns-clause-none : goal.returns-clause-none
returns-clause-none c = named_none c.args.word.now _ (named_as c.args.word.now _ c.op_at.ensures.some c.op_at.ensures.none)
