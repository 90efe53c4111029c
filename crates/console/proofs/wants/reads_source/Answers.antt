use Rattle.console.proofs.Lemmas.{◌∙◌, ap, one_form}
use Rattle.console.specs.Wants.{source_for}
use Rattle.console.proofs.wants.reads_source.Goals as goal

pub returns-in-Some-clause-asked : goal.returns-in-Some-clause-asked
returns-in-Some-clause-asked c form says = c.reads.ensures ∙ ap source_for (one_form c.args.words.now c.in-Some.command form c.in-Some.ensures says)

pub returns-in-None-clause-asked : goal.returns-in-None-clause-asked
returns-in-None-clause-asked c form says = absurd (c.in-None.ensures form says)

pub returns-in-Some-clause-none : goal.returns-in-Some-clause-none
returns-in-Some-clause-none c none = absurd (none c.in-Some.command c.in-Some.ensures)
