use Rattle.storage_unit.proofs.Common.{◌≡◌, List, Pair, IsOfTable, overlaid, first_keys}
use Rattle.storage_unit.proofs.private.enter_pages.Given as goal

abbrev pub invariant-loop-index : goal.invariant-loop-index
invariant-loop-index l = record {
  table : l.table ≡ record l.initial.table { keys = overlaid l.initial.table.keys l.first (first_keys l.segment l.index) };
  of_table : (classes : List (List Pair)) → IsOfTable classes l.initial.table.keys → IsOfTable classes l.table.keys;
}
