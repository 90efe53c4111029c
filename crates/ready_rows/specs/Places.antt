-- Places of rows, and the bytes of a row.
use Rattle.std.specs.Prelude.{ℕ, ◌+◌, ◌/◌, ◌%◌, ◌==◌, ◌&&◌, nat_lt, if◌then◌else◌, Bool, List, slice_get, Option, Some, None}
use Rattle.flat_machine.specs.Ready.{has_second}
use Rattle.flat_machine.specs.declared.ready.Ready.{Ready}
use Rattle.ready_rows.specs.declared.place.Place.{Place}

-- the place of the row at an address
abbrev pub row_place : ℕ → ℕ
row_place address = address / 2 % 512

-- the row of a place, if it is the one at an address
abbrev pub row_if : (address : ℕ) → Option Place → Option Ready
row_if address None = None
row_if address (Some place) = if place.at == address then Some place.row else None

-- the row at an address, if its place has that address
abbrev pub row_in : List Place → (address : ℕ) → Option Ready
row_in places address = row_if address (slice_get places (row_place address))

-- how many bytes a row has
abbrev pub row_bytes : Ready → ℕ
row_bytes row = if has_second row then 4 else 2

-- whether a row at an address and so many bytes from an offset on overlap
abbrev pub overlaps : (offset bytes address : ℕ) → Ready → Bool
overlaps offset bytes address row = nat_lt address (offset + bytes) && nat_lt offset (address + row_bytes row)
