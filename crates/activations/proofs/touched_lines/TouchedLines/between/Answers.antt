use Rattle.activations.proofs.Lemmas.{rules, wanted-one, wanted-two}
use Rattle.activations.proofs.touched_lines.TouchedLines.between.Goals as goal

pub returns-then-first-last-clause-wanted : goal.returns-then-first-last-clause-wanted
returns-then-first-last-clause-wanted c directory below =
    wanted-one directory c.want_of.result c.args.first c.args.last c.args.store c.want_of.ensures.page c.want_of.ensures.sets c.want_of.ensures.lines
    c.requires.order c.requires.near c.if-first-last.true below

pub returns-else-first-last-clause-wanted : goal.returns-else-first-last-clause-wanted
returns-else-first-last-clause-wanted c directory below =
    wanted-two directory c.want_of-else-first-last.result c.want_of-else-first-last-2.result c.args.first c.args.last c.args.store
    c.want_of-else-first-last.ensures.page c.want_of-else-first-last-2.ensures.page c.want_of-else-first-last.ensures.sets c.want_of-else-first-last-2.ensures.sets
    (search rules) c.requires.order c.requires.near c.if-first-last.false below
