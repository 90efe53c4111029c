-- The bytes of registers, stored at an address whose bytes lie somewhere.
use Rattle.storage_unit.proofs.Common.{◌≡◌, ℕ, Bool, List, length, arith, Ok, nat_tests, Virtual, located_by, FitsFrom, stored_bytes, stored_bytes-long, Reach, byte_place, put_at, stored, IsReachSound}
use Rattle.storage_unit.proofs.PlaceLemmas.{first-byte}

-- they are put where the first byte lies
pub gathered-at :
    (state : Reach) → IsReachSound state → (address bytes : ℕ) (store : Bool) (first : Virtual) → located_by state.registers address bytes store ≡ Ok first
    → (registers : List ℕ) (from : ℕ) → length registers ≡ 16 → FitsFrom bytes from
    → put_at state (byte_place state.directory first) (stored_bytes registers bytes from) ≡ stored state address (stored_bytes registers bytes from)
gathered-at state sound address bytes store first found registers from long fits = grind (arith, nat_tests, stored_bytes-long registers bytes from long fits, first-byte state sound address bytes store first found)
