use Rattle.std.proofs.Common.{arith}
use Rattle.ready_rows.specs.Known.{known}
use Rattle.ready_rows.proofs.RowLemmas.{on_way-begins, on_way-goes, on_way-ends}
use Rattle.ready_rows.proofs.rows.ReadyRows.drop_met.Goals as goal

pub loop-half-init : goal.loop-half-init
loop-half-init c address = on_way-begins _ _ _ _ _

pub loop-half-preserved : goal.loop-half-preserved
loop-half-preserved c address = on_way-goes _ _ _ _ _ _ (known c.loop-half.self address) _ (c.loop-half.invariant address) (c.drop_place.ensures address)

pub returns : goal.returns
returns c address = on_way-ends _ _ _ _ _ _ _ (c.loop-half.invariant address) (omega arith) c.loop-half-test.false
