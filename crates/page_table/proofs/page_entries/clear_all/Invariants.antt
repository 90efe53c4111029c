use Rattle.page_table.proofs.Common.{◌≡◌, ◌++◌, take, drop, map, cleared_entry}
use Rattle.page_table.proofs.page_entries.clear_all.Given as goal

-- the entries so far are cleared
abbrev pub invariant-loop-entry : goal.invariant-loop-entry
invariant-loop-entry l = l.entries ≡ map (cleared_entry l.tid) (take l.entry-index l.initial.entries) ++ drop l.entry-index l.initial.entries
