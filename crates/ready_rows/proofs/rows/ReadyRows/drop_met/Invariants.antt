use Rattle.std.proofs.Common.{ℕ}
use Rattle.ready_rows.specs.Known.{known}
use Rattle.ready_rows.proofs.RowLemmas.{IsOnWay}
use Rattle.ready_rows.proofs.rows.ReadyRows.drop_met.Given as goal

abbrev pub invariant-loop-half : goal.invariant-loop-half
invariant-loop-half l =
    (address : ℕ) → IsOnWay l.first l.half l.offset l.bytes address (known l.fn.self address) (known l.self address)
