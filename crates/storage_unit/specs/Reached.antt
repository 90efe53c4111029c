-- What holds of the state of every unit, and the bytes that the seat that is selected may reach.
use Rattle.std.specs.Prelude.{◌≡◌, ℕ, ◌+◌, ◌≤◌, ◌<◌, ◌^◌, not, Bool, true, false, List, map, length, is_some, slice_index_or, Some, Option, find}
use Rattle.storage_unit.specs.Below.{byte_count, AreSegmentsLegal, length_of, Located, page_bytes, page_count, range_with_len, start_of, Virtual}
use Rattle.storage_unit.specs.Held.{IsSelected, frame_found}
use Rattle.storage_unit.specs.PoolLaws.{PoolFits}
use Rattle.storage_unit.specs.declared.unit_model.Reach.{Reach}
use Rattle.storage_unit.specs.Places.{private_segment, is_private, offset_of, byte_place, on}
use Rattle.storage_unit.specs.Reach.{byte_of, is_there, refuses_past, refuses_place}

-- what holds of every unit: its parts have the sizes of its store, and the seat that is selected may reach what its
-- registers name
pub record IsReachSound (state : Reach) : Type 0 where
  pub sixteen : length state.begun ≡ 16
  pub legal : AreSegmentsLegal state.directory.segments
  pub fits : PoolFits state.directory state.pool
  pub entries : length state.entries ≡ page_count state.directory
  pub selected : IsSelected state.directory state.begun state.runner state.registers

-- so many bytes from a byte on lie in the private storage of the seat that is selected, which is begun, or in a segment of
-- the store
pub record Lies (state : Reach) (at : Virtual) (count : ℕ) : Type 0 where
  pub within : at.byte < page_bytes state.directory.page
  pub few : offset_of state.directory.page at + count ≤ 2 ^ 22
  pub private : is_private at.segment ≡ true → (seat : ℕ) × (state.runner ≡ seat + 1) × (seat < 16) × (at.segment ≡ private_segment seat) × (slice_index_or state.begun seat false ≡ true) × (offset_of state.directory.page at + count ≤ 16384)
  pub shared : is_private at.segment ≡ false → (bytes : ℕ) × (length_of state.directory at.segment ≡ Some bytes) × (offset_of state.directory.page at + count ≤ bytes) × (start_of state.directory at.segment + bytes ≤ byte_count state.directory)

-- so many bytes from a byte on are in frames
abbrev pub AreThere : Reach → Virtual → (count : ℕ) → Type 0
AreThere state first count = (past : ℕ) → past < count → is_there state (on (byte_place state.directory first) past) ≡ true

-- some bytes from a byte on may be copied, and written over: they lie so, and are in frames
pub record CanReach (state : Reach) (first : Virtual) (count : ℕ) : Type 0 where
  pub some : 0 < count
  pub lies : Lies state first count
  pub there : AreThere state first count

-- so many bytes from a place on, as they are shown
abbrev pub bytes_shown : Reach → Located → (count : ℕ) → List ℕ
bytes_shown state first count = map (λ past. byte_of state (on first past)) (range_with_len 0 count)

-- and from a byte on
abbrev pub shown_from : Reach → Virtual → (count : ℕ) → List ℕ
shown_from state first count = bytes_shown state (byte_place state.directory first) count

-- how many bytes past a byte the first of so many lies whose page is in no frame
abbrev pub past_absent : Reach → Virtual → (count : ℕ) → Option ℕ
past_absent state first count = find (λ past. not (is_there state (on (byte_place state.directory first) past))) (range_with_len 0 count)

-- or the first that the entry of its page refuses, and the same of bytes of the store from a place on
abbrev pub past_kept : Reach → Virtual → (count : ℕ) → (store : Bool) → Option ℕ
past_kept state first count store = find (λ past. refuses_past state first past store) (range_with_len 0 count)

abbrev pub past_refused : Reach → (place count : ℕ) → (store : Bool) → Option ℕ
past_refused state place count store = find (λ past. refuses_place state (place + past) store) (range_with_len 0 count)

-- whether the table has no frame with the page of a byte
abbrev pub is_absent : Reach → Virtual → Bool
is_absent state at = not (is_some (frame_found state at))
