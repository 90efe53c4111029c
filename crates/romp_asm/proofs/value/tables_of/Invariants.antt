use Rattle.romp_asm.proofs.Common.{◌≡◌, ◌≤◌, ◌*◌, ◌^◌, List, length, take, sum_by, Statement, AreTables, total_size}
use Rattle.romp_asm.proofs.value.tables_of.Given as goal

abbrev pub invariant-loop-statements : goal.invariant-loop-statements
invariant-loop-statements l = record {
  tables : AreTables l.tables.items (take l.statements-index l.sources);
  address : l.address ≡ sum_by total_size (take l.statements-index l.sources);
  small : l.address ≤ sum_by (λ (source : List Statement). length source) (take l.statements-index l.sources) * 2 ^ 32;
}
