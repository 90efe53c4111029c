use Rattle.std.proofs.Common.{arith}
use Rattle.ready_rows.specs.Known.{known}
use Rattle.ready_rows.proofs.RowLemmas.{above-top}
use Rattle.ready_rows.proofs.rows.ReadyRows.drop_at.Goals as goal

pub returns-then-low-self : goal.returns-then-low-self
unfolding known
returns-then-low-self c address =
    let rows = c.args.self.now in above-top (known rows address) rows.top c.args.offset c.args.bytes address (rows.below address) (omega arith)
