use Rattle.storage_unit.proofs.Common.{◌≡◌, fold, keys_without}
use Rattle.storage_unit.proofs.page_moves.leave_all.Given as goal

-- the pages that are left leave, and the table is then as if all of them had left
abbrev pub invariant-loop-page : goal.invariant-loop-page
invariant-loop-page l = record l.table { keys = fold (keys_without l.pool) l.table.keys l.page-iterator } ≡ record l.initial.table { keys = fold (keys_without l.pool) l.initial.table.keys l.initial.page-iterator }
