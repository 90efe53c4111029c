use Rattle.page_table.proofs.Common.{◌≡◌, map, cleared_entry}
use Rattle.page_table.proofs.page_entries.PageEntries.clear_among.Given as goal

-- those that are left are the same
abbrev pub invariant-loop-page : goal.invariant-loop-page
invariant-loop-page l = map (cleared_entry l.tid) l.self ≡ map (cleared_entry l.tid) l.initial.self
