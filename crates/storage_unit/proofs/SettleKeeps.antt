-- Lines that are settled leave the bytes as they were.
use Rattle.storage_unit.proofs.Common.{◌≡◌, ℕ, ◌<◌, Bool, true, false, List, arith, Layout, byte_count, Pool, is_marked, byte_over, IsClean, SettleKeeps, nat_tests, ◌&&◌, not, slice_index}
use Rattle.storage_unit.proofs.ByteLemmas.{same-bytes, byte-of-all}
use Rattle.storage_unit.proofs.LeaveLemmas.{settled-over, settled-line, clean-of}

-- a line that isn't marked once lines are settled was not marked, or is one of them
clear : (d : Layout) (pool : Pool) (committed : List ℕ) (place : ℕ) (marked among : Bool) → is_marked d pool place ≡ marked → (marked && not among) ≡ false
    → (among ≡ true → byte_over d pool committed place ≡ slice_index committed place) → IsClean d pool committed → place < byte_count d
    → byte_over d pool committed place ≡ slice_index committed place
clear d pool committed place marked among m none settles clean below = grind (arith, nat_tests)

pub settle-keeps : SettleKeeps
settle-keeps = grind (arith, nat_tests, byte-of-all, settled-over, same-bytes, clean-of, clear, settled-line)
