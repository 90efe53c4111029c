-- The bytes that a storage shows.
use Rattle.std.specs.Prelude.{ℕ, ◌+◌, nat_le, if◌then◌else◌, Bool, List, map, Option, Some, None}
use Rattle.std.specs.List.{range_with_len}
use Rattle.byteorder.specs.Endian.{big_number}
use Rattle.romp_cpu.specs.declared.storage.Access.{Access}

-- the bytes shown from an address on
abbrev pub bytes_from : (byte_at : ℕ → ℕ) → (address count : ℕ) → List ℕ
bytes_from byte_at address count = map byte_at (range_with_len address count)

-- the halfword shown at an address, if it lies in the 16,384 bytes of register 0
abbrev pub halfword_of : (byte_at : ℕ → ℕ) → (address : ℕ) → Option ℕ
halfword_of byte_at address = if nat_le (address + 2) 16384 then Some (big_number 2 (bytes_from byte_at address 2)) else None

-- an access to so many bytes from an address on
abbrev pub access_to : (address bytes : ℕ) → Bool → Access
access_to address bytes store = record { address = address; bytes = bytes; store = store }
