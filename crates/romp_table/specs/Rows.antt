-- The row of an operation.
use Rattle.std.specs.Prelude.{ℕ, Bool, ◌==◌, Option, find}
use denote.Enum.Declared.{tag_of}
use Rattle.romp_table.specs.contracts.inst.Op.{the_type}
use Rattle.romp_table.specs.declared.inst.Op.{Op}
use Rattle.romp_table.specs.declared.table.Row.{Row}
use Rattle.romp_table.specs.declared.table.TheConstants.{TABLE}

-- the place of an operation among all operations, from 0
abbrev pub op_place : Op → ℕ
op_place op = tag_of the_type op

-- whether a row is the one of the operation at this place
abbrev pub is_row_at : ℕ → Row → Bool
is_row_at place row = op_place row.op == place

-- the row of an operation
unfoldable pub row_of : Op → Option Row
row_of op = find (is_row_at (op_place op)) TABLE
