-- What the table of a unit holds, and what stands under the registers of the seat that is selected.
use Rattle.std.specs.Prelude.{◌≡◌, ℕ, ◌+◌, ◌/◌, ◌%◌, ◌<◌, nat_lt, if◌then◌else◌, Bool, true, false, List, [], map, replicate, slice_index_or, slice_set, Option, Some, None, option_map}
use Rattle.storage_unit.specs.Below.{frame_at, IsOfPage, Key, key_of, key_to, Layout, length_of, look_up, option_map_or, overlaid, PageSize, Placed, Pool, private_frames, private_register, range_with_len, Registers, Virtual}
use Rattle.lines.specs.declared.line_geometry.PageSize.TheVariants.{Two, Four}
use Rattle.page_table.specs.declared.segment_regs.SegmentRegister.{SegmentRegister}
use Rattle.storage_unit.specs.declared.unit_model.Reach.{Reach}
use Rattle.storage_unit.specs.Places.{private_segment, is_private, key_of_page}

-- the private pages of a seat: 16,384 bytes in all
abbrev pub seat_pages : PageSize → ℕ
seat_pages Two = 8
seat_pages Four = 4

-- how many private pages of a seat are in the table: all of them while it is begun, else none
abbrev pub pages_begun : PageSize → List Bool → (seat : ℕ) → ℕ
pages_begun size begun seat = if slice_index_or begun seat false then seat_pages size else 0

-- what a private frame holds: the page of its seat, if that is among so many
abbrev pub held_private : PageSize → (in_table : ℕ → ℕ) → (frame : ℕ) → Option Key
held_private size in_table frame =
    if nat_lt (frame % seat_pages size) (in_table (frame / seat_pages size)) then Some (key_to (private_segment (frame / seat_pages size)) (frame % seat_pages size)) else None

-- what a frame holds: a private page, or the page of the store that the pool has in it
abbrev pub held_in : Layout → (in_table : ℕ → ℕ) → List (Option ℕ) → (frame : ℕ) → Option Key
held_in directory in_table page_in frame =
    if nat_lt frame (private_frames directory.page) then held_private directory.page in_table frame else option_map (key_of_page directory) (slice_index_or page_in frame None)

-- what all frames hold
abbrev pub keys_with : Layout → (in_table : ℕ → ℕ) → (frames : ℕ) → List (Option ℕ) → List (Option Key)
keys_with directory in_table frames page_in = map (held_in directory in_table page_in) (range_with_len 0 (private_frames directory.page + frames))

abbrev pub keys_of : Layout → (begun : List Bool) → (frames : ℕ) → List (Option ℕ) → List (Option Key)
keys_of directory begun frames page_in = keys_with directory (pages_begun directory.page begun) frames page_in

-- the keys without those of the frame that a pool has a page in
abbrev pub keys_without : Pool → List (Option Key) → (page : ℕ) → List (Option Key)
keys_without pool keys page = option_map_or (λ frame. slice_set keys frame None) (frame_at pool page) keys

-- the first so many pages of a segment
abbrev pub first_keys : (segment count : ℕ) → List (Option Key)
first_keys segment count = map (λ index. Some (key_to segment index)) (range_with_len 0 count)

-- a table with these keys from a frame on
abbrev pub with_keys : Placed → (first : ℕ) → List (Option Key) → Placed
with_keys table first keys = record table { keys = overlaid table.keys first keys }

-- the table of a unit
abbrev pub table_of : Reach → Placed
table_of state = record { keys = keys_of state.directory state.begun state.pool.frames state.pool.page_in; entries = state.entries }

-- the frame that it has for the page of a byte
abbrev pub frame_found : Reach → Virtual → Option ℕ
frame_found state at = look_up (table_of state).keys (key_of at)

-- the marks of each page are lines of it
abbrev pub AreOfPages : List (List ℕ) → Type 0
AreOfPages marked = (page : ℕ) → IsOfPage (slice_index_or marked page [])

-- what stands under a register of a seat's: its own private bytes, or a segment of the store with its bytes
pub record IsUnder (directory : Layout) (seat : ℕ) (register : SegmentRegister) : Type 0 where
  pub private : is_private register.segment ≡ true → (register.segment ≡ private_segment seat) × (register.bytes ≡ 16384)
  pub shared : is_private register.segment ≡ false → length_of directory register.segment ≡ Some register.bytes

-- registers that a seat may have: their pages are the store's, and the first is its private segment's
pub record AreReached (directory : Layout) (seat : ℕ) (registers : Registers) : Type 0 where
  pub page : registers.page ≡ directory.page
  pub first : slice_index_or registers.list 0 None ≡ Some (private_register (private_segment seat))
  pub under : (number : ℕ) (register : SegmentRegister) → slice_index_or registers.list number None ≡ Some register → IsUnder directory seat register

-- the seat that is selected was begun, and the registers are those that it may have; where none is, nothing stands under any
pub record IsSelected (directory : Layout) (begun : List Bool) (runner : ℕ) (registers : Registers) : Type 0 where
  pub none : runner ≡ 0 → registers ≡ record { page = directory.page; list = replicate 16 None }
  pub few : runner < 17
  pub seat : (seat : ℕ) → runner ≡ seat + 1 → (slice_index_or begun seat false ≡ true) × AreReached directory seat registers
