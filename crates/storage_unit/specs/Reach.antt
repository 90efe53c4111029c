-- The unit as a storage: what it shows, answers and stores.
use Rattle.std.specs.Prelude.{ℕ, ◌+◌, ◌-◌, ◌*◌, ◌/◌, ◌%◌, ◌==◌, ◌&&◌, nat_le, nat_lt, not, if◌then◌else◌, Bool, true, false, List, map, length, slice_index, slice_index_or, is_some, Result}
use Rattle.storage_unit.specs.Below.{Access, answer_in, frame_at, grant_of, has, Layout, lets, line_of, lines_at, lines_where, Located, located_by, marks_at, option_map_or, overlaid, page_at, page_bytes, page_of_line, Pool, Private, Probe, range_with_len, Refused, Shared, union, unowned, Virtual}
use Rattle.page_table.specs.declared.segment_regs.Check.{Check}
use Rattle.storage_unit.specs.declared.unit_model.Reach.{Reach}
use Rattle.storage_unit.specs.Places.{on, byte_place, place_at}
use Rattle.storage_unit.specs.Bytes.{byte_shown}

-- a state with what becomes of its pool
abbrev pub over_pool : Reach → (Pool → Pool) → Reach
over_pool state becomes = record state { pool = becomes state.pool }

-- the seat that is selected
abbrev pub seat_selected : Reach → ℕ
seat_selected state = state.runner - 1

-- whether the page of a line is in a frame
abbrev pub is_resident : Reach → ℕ → Bool
is_resident state line = is_some (frame_at state.pool (page_of_line line))

-- whether the entry of a line's page refuses the selected seat to load it, or to store it
abbrev pub is_refused : Reach → ℕ → Bool → Bool
is_refused state line store = not (lets (grant_of (slice_index_or state.entries (page_of_line line) unowned)) state.runner (line % 16) store)

-- the same of a place of the store
abbrev pub refuses_place : Reach → (place : ℕ) → Bool → Bool
refuses_place state place store = is_refused state (line_of state.directory place) store

-- the byte at a place: of private storage that of the selected seat, of the store that of its frame
abbrev pub byte_of : Reach → Located → ℕ
byte_of state (Private at) = slice_index state.pool.bytes (seat_selected state * 16384 + at)
byte_of state (Shared at) = byte_shown state.directory state.pool at 0
byte_of state (Refused code) = 0

-- the byte at an effective address
abbrev pub byte_at : Reach → ℕ → ℕ
byte_at state address = byte_of state (place_at state.directory (located_by state.registers address 1 false))

-- whether the page of a place is in a frame; private storage always is
abbrev pub is_there : Reach → Located → Bool
is_there state (Shared at) = is_resident state (line_of state.directory at)
is_there state _ = true

-- whether the entry of a place's page refuses; of private storage none does
abbrev pub is_kept_from : Reach → Located → Bool → Bool
is_kept_from state (Shared at) store = refuses_place state at store
is_kept_from state _ store = false

-- the same of a byte
abbrev pub is_in_frame : Reach → Virtual → Bool
is_in_frame state at = is_there state (byte_place state.directory at)

abbrev pub refuses_byte : Reach → Virtual → Bool → Bool
refuses_byte state at store = is_kept_from state (byte_place state.directory at) store

-- and of the byte so many past one
abbrev pub refuses_past : Reach → Virtual → (past : ℕ) → Bool → Bool
refuses_past state first past store = is_kept_from state (on (byte_place state.directory first) past) store

-- the byte at which an access begins, or that it is refused
abbrev pub begins_at : Reach → Access → Result Virtual Check
begins_at state wants = located_by state.registers wants.address wants.bytes wants.store

-- what an access is answered
abbrev pub answer_to : Reach → Access → Probe
answer_to = answer_in (λ state. state.registers) is_in_frame refuses_byte

-- the byte of a place, with these bytes over those from a place on
abbrev pub put_byte : (bytes : List ℕ) → (from place old : ℕ) → ℕ
put_byte bytes from place old = if nat_le from place && nat_lt place (from + length bytes) then slice_index bytes (place - from) else old

-- the byte at a spot of the frames, with these bytes over those of the store from a place on
abbrev pub spot_put : Layout → Pool → (from : ℕ) → List ℕ → (spot : ℕ) → ℕ
spot_put directory pool from bytes spot =
    option_map_or
    (λ page. put_byte bytes from (page * page_bytes directory.page + spot % page_bytes directory.page) (slice_index pool.bytes spot))
    (page_at pool (spot / page_bytes directory.page))
    (slice_index pool.bytes spot)

-- the marks of a page, with those lines beside them that have some of so many bytes of the store from a place on
abbrev pub marks_put : Layout → Pool → (from count page : ℕ) → List ℕ
marks_put directory pool from count page =
    union (marks_at pool page) (lines_where (λ line. has (lines_at directory (Shared from) count) (page * 16 + line)))

-- bytes over those of the store from a place on, in the frames of their pages; their lines are marked
abbrev pub put_in_store : Layout → Pool → (from : ℕ) → List ℕ → Pool
put_in_store directory pool from bytes =
    record pool {
      bytes = map (spot_put directory pool from bytes) (range_with_len 0 (length pool.bytes));
      marked = map (marks_put directory pool from (length bytes)) (range_with_len 0 (length pool.marked));
    }

-- bytes over those from a place on
abbrev pub put_at : Reach → Located → List ℕ → Reach
put_at state (Private at) bytes = record state { pool = record state.pool { bytes = overlaid state.pool.bytes (seat_selected state * 16384 + at) bytes } }
put_at state (Shared at) bytes = record state { pool = put_in_store state.directory state.pool at bytes }
put_at state (Refused code) bytes = state

-- bytes over those from a byte on
abbrev pub put_from : Reach → Virtual → List ℕ → Reach
put_from state first bytes = put_at state (byte_place state.directory first) bytes

-- bytes over those from an effective address on
abbrev pub stored : Reach → ℕ → List ℕ → Reach
stored state address bytes =
    if length bytes == 0 then state else put_at state (place_at state.directory (located_by state.registers address 0 false)) bytes
