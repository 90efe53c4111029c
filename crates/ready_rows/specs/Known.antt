-- The rows that are known, by their addresses.
use Rattle.std.specs.Prelude.{◌≡◌, ℕ, ◌==◌, if◌then◌else◌, Option, Some, None}
use Rattle.flat_machine.specs.declared.ready.Ready.{Ready}
use Rattle.ready_rows.specs.Places.{overlaps, row_in, row_place}
use Rattle.ready_rows.specs.declared.rows.ReadyRows.{ReadyRows}

-- the row that is known at an address
unfoldable pub known : ReadyRows → (address : ℕ) → Option Ready
known rows address = row_in rows.places.items address

-- no row is known
abbrev pub KnowsNoRow : ReadyRows → Type 0
KnowsNoRow rows = (address : ℕ) → known rows address ≡ None

-- what is known at an address after so many bytes from an offset on were written: nothing where they meet the row
abbrev pub unless_met : (offset bytes address : ℕ) → Option Ready → Option Ready
unless_met offset bytes address None = None
unless_met offset bytes address (Some row) = if overlaps offset bytes address row then None else Some row

-- what is known at an address after a row was kept at one: that row, nothing elsewhere in its place, and all else as before
abbrev pub with_row : (at : ℕ) → Ready → (address : ℕ) → Option Ready → Option Ready
with_row at row address before =
    if address == at then Some row else (if row_place address == row_place at then None else before)

-- what is known at an address after a place lost its row
abbrev pub without_place : (place address : ℕ) → Option Ready → Option Ready
without_place place address before = if row_place address == place then None else before

-- what is known at an address after a place lost a row that so many bytes meet
abbrev pub with_place : (place offset bytes address : ℕ) → Option Ready → Option Ready
with_place place offset bytes address before =
    if row_place address == place then unless_met offset bytes address before else before
