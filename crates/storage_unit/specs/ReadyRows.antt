-- The rows that a unit knows: each is made ready of the private bytes of who is selected.
use Rattle.std.specs.Prelude.{◌≡◌, ℕ, ◌+◌, ◌-◌, ◌*◌, ◌%◌, ◌^◌, ◌≤◌, nat_lt, if◌then◌else◌, List, slice_index, Option, Some}
use Rattle.byteorder.specs.Endian.{big_number}
use Rattle.storage_unit.specs.Below.{bytes_from, IsReadyRowOf, known, unless_met}
use Rattle.flat_machine.specs.declared.ready.Ready.{Ready}
use Rattle.ready_rows.specs.declared.rows.ReadyRows.{ReadyRows}

-- the private byte at an offset of the seat with this identifier, and the halfword
abbrev pub private_byte : List ℕ → (runner offset : ℕ) → ℕ
private_byte bytes runner offset = slice_index bytes ((runner - 1) * 16384 + offset)

abbrev pub private_half : List ℕ → (runner offset : ℕ) → ℕ
private_half bytes runner offset = big_number 2 (bytes_from (private_byte bytes runner) offset 2)

-- a row is made ready of the halfwords at an address
abbrev pub IsMadeOf : List ℕ → (runner address : ℕ) → Ready → Type 0
IsMadeOf bytes runner address row = IsReadyRowOf row (private_half bytes runner address) (private_half bytes runner (address + 2)) address

-- each row that is known is made ready of the private bytes of who is selected; where nobody is, none is known
pub record AreReady (rows : ReadyRows) (bytes : List ℕ) (runner : ℕ) : Type 0 where
  pub selected : (address : ℕ) (row : Ready) → known rows address ≡ Some row → 1 ≤ runner
  pub within : (address : ℕ) (row : Ready) → known rows address ≡ Some row → address + 4 ≤ 16384
  pub of_row : (address : ℕ) (row : Ready) → known rows address ≡ Some row → IsMadeOf bytes runner address row

-- what is known at an address after so many bytes were stored from a spot on: where that one is private, no row that has one of them
abbrev pub after_store : (spot bytes address : ℕ) → Option Ready → Option Ready
after_store spot bytes address before = if nat_lt spot (2 ^ 18) then unless_met (spot % 16384) bytes address before else before
