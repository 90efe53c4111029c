use Rattle.std.proofs.Common.{◌≡◌, ℕ}
use Rattle.ready_rows.specs.Known.{known}
use Rattle.ready_rows.proofs.RowLemmas.{IsEmptiedTo}
use Rattle.ready_rows.proofs.rows.ReadyRows.forget.Given as goal

abbrev pub invariant-loop-index : goal.invariant-loop-index
invariant-loop-index l =
    record {
      rows : (address : ℕ) → IsEmptiedTo l.index address (known l.fn.self address) (known l.self address);
      top : l.self.top ≡ l.fn.self.top;
    }
