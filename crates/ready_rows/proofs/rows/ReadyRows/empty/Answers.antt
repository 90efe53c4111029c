use Rattle.std.proofs.Common.{arith}
use Rattle.ready_rows.specs.Known.{known}
use Rattle.ready_rows.proofs.RowLemmas.{row_in-emptied}
use Rattle.ready_rows.proofs.rows.ReadyRows.empty.Goals as goal

pub returns-clause-known : goal.returns-clause-known
unfolding known
returns-clause-known c address =
    row_in-emptied c.args.self.now.places.items c.args.index _ address (omega (arith, c.args.self.now.sized)) c.requires c.elsewhere.ensures.apart
