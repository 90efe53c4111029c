use Rattle.page_table.proofs.Common.{true, false, arith, nat_tests}
use Rattle.page_table.specs.KnownLines.{known}
use Rattle.page_table.proofs.LineLemmas.{none-before}
use Rattle.page_table.proofs.open_lines.OpenLines.forget.Goals as goal

pub returns : goal.returns
unfolding known
returns c true block = none-before _ block c.args.self.now.stores c.args.self.now.spots (λ place. grind (arith, nat_tests, c.args.self.now.stores_past place, c.args.self.now.stores_low place))
returns c false block = none-before _ block c.args.self.now.loads c.args.self.now.spots (λ place. grind (arith, nat_tests, c.args.self.now.loads_past place, c.args.self.now.loads_low place))
