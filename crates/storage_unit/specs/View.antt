-- What a `Unit` is seen as.
use Rattle.std.specs.Prelude.{List}
use Rattle.storage_unit.specs.Below.{Pair}
use Rattle.storage_unit.specs.declared.unit_model.Reach.{Reach}
use Rattle.storage_unit.specs.declared.unit.Unit.{Unit}

abbrev pub reach_of : Unit → Reach
reach_of unit =
    record { pool = unit.pool; entries = unit.table.entries; begun = unit.begun; directory = unit.directory; registers = unit.registers; runner = unit.runner }

-- the look-aside buffer
abbrev pub buffer_of : Unit → List (List Pair)
buffer_of unit = unit.buffer
