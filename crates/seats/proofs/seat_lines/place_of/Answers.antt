use Rattle.seats.proofs.ListedLemmas.{found-before, found-behind, missed-before, missed-behind}
use Rattle.seats.proofs.seat_lines.place_of.Goals as goal

pub returns-in-Ok-clause-before : goal.returns-in-Ok-clause-before
returns-in-Ok-clause-before c = found-before c.args.list.now c.requires c.args.page c.binary_search.result c.binary_search.ensures.position c.in-Ok.at c.in-Ok.is

pub returns-in-Ok-clause-behind : goal.returns-in-Ok-clause-behind
returns-in-Ok-clause-behind c = found-behind c.args.list.now c.requires c.args.page c.binary_search.result c.binary_search.ensures.position c.in-Ok.at c.in-Ok.is

pub returns-in-Err-clause-before : goal.returns-in-Err-clause-before
returns-in-Err-clause-before c = missed-before c.args.list.now c.requires c.args.page c.binary_search.result c.binary_search.ensures.position c.in-Err.at c.in-Err.is

pub returns-in-Err-clause-behind : goal.returns-in-Err-clause-behind
returns-in-Err-clause-behind c = missed-behind c.args.list.now c.requires c.args.page c.binary_search.result c.binary_search.ensures.position c.in-Err.at c.in-Err.is
