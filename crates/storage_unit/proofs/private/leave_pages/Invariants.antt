use Rattle.storage_unit.proofs.Common.{◌≡◌, replicate, overlaid, IsOfTable, None}
use Rattle.storage_unit.proofs.private.leave_pages.Given as goal

abbrev pub invariant-loop-index : goal.invariant-loop-index
invariant-loop-index l = record {
  table : l.table ≡ record l.initial.table { keys = overlaid l.initial.table.keys l.first (replicate l.index None) };
  of_table : IsOfTable l.buffer l.table.keys;
}
