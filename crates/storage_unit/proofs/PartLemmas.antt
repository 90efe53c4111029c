-- The pool after a part of a frame was written.
use Rattle.storage_unit.proofs.Common.{◌≡◌, ℕ, Bool, ◌+◌, ◌*◌, ◌≤◌, List, length, arith, Some, length-take, length-drop, page_bytes, Layout, Virtual, key_of, look_up, Pool, marked_in, with_bytes, frame_part, with_frame_part, lent-part, Unit, table_of, keys_of, reach_of, nat_tests}
use Rattle.storage_unit.proofs.CopyLemmas.{found-below}
use Rattle.storage_unit.proofs.UnitLemmas.{unit-sound}

module _ (unit : Unit) (at : Virtual) (frame byte n : ℕ) (is : look_up (table_of (reach_of unit)).keys (key_of at) ≡ Some frame) (same : byte ≡ at.byte) (within : at.byte + n ≤ page_bytes unit.directory.page) where
  pub room : frame * page_bytes unit.pool.page + byte + n ≤ length unit.pool.bytes
  room = grind (arith, nat_tests, found-below (reach_of unit), unit-sound unit)

  pub part-long : length (frame_part unit.pool frame byte n) ≡ n
  part-long = simp (length-take, length-drop) (omega (arith, room))

  -- the pool after the part was written
  pub pool-after : (lines part : List ℕ) → length part ≡ n
      → with_frame_part (marked_in unit.pool frame lines) (frame * page_bytes unit.pool.page + byte) part
      ≡ with_bytes (marked_in unit.pool frame lines) (frame * page_bytes unit.pool.page + byte) part
  pool-after lines part long =
      let bytes-same : length (marked_in unit.pool frame lines).bytes ≡ length unit.pool.bytes = grind (arith, nat_tests) in
      lent-part (marked_in unit.pool frame lines) (frame * page_bytes unit.pool.page + byte) part (omega (arith, room, long, bytes-same))

-- what stays of the pool
pub marked-same : (pool : Pool) (frame : ℕ) (lines : List ℕ) → ((marked_in pool frame lines).page ≡ pool.page) × (length (marked_in pool frame lines).frame_of ≡ length pool.frame_of)
marked-same pool frame lines = grind (arith, nat_tests)

pub marked-keys : (d : Layout) (begun : List Bool) (pool : Pool) (frame : ℕ) (lines : List ℕ) → keys_of d begun (marked_in pool frame lines).frames (marked_in pool frame lines).page_in ≡ keys_of d begun pool.frames pool.page_in
marked-keys d begun pool frame lines = grind (arith, nat_tests)
