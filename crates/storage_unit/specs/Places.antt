-- Where bytes lie: private storage, the flat place in the store, and the page that the table knows.
use Rattle.std.specs.Prelude.{ℕ, ◌+◌, ◌-◌, ◌*◌, nat_le, nat_lt, if◌then◌else◌, Bool, List, [], ◌∷◌, Result, Ok, Err}
use Rattle.storage_unit.specs.Below.{Key, key_to, Layout, Located, page_bytes, PageSize, Private, Refused, Shared, start_of, Virtual}
use Rattle.page_table.specs.declared.segment_regs.Check.{Check}

-- the private segment of a seat, and whether a segment is a private one
abbrev pub private_segment : ℕ → ℕ
private_segment seat = 3840 + seat

abbrev pub is_private : ℕ → Bool
is_private segment = nat_le 3840 segment

-- the offset of a byte in its segment, by the size of a page
abbrev pub offset_of : PageSize → Virtual → ℕ
offset_of page at = at.page * page_bytes page + at.byte

-- the place of a byte of the store
abbrev pub flat_place : Layout → Virtual → ℕ
flat_place directory at = start_of directory at.segment + offset_of directory.page at

-- where a byte lies: at an offset of private storage, or at a place of the store
abbrev pub byte_place : Layout → Virtual → Located
byte_place directory at = if is_private at.segment then Private (offset_of directory.page at) else Shared (flat_place directory at)

-- where an access lies, or that it is refused
abbrev pub place_at : Layout → Result Virtual Check → Located
place_at directory (Ok at) = byte_place directory at
place_at directory (Err check) = Refused check.0

-- so many bytes on
abbrev pub on : Located → ℕ → Located
on (Private at) past = Private (at + past)
on (Shared at) past = Shared (at + past)
on (Refused code) past = Refused code

-- the page of a segment that a flat page is
abbrev pub key_among : List (ℕ × ℕ) → (page : ℕ) → Key
key_among [] page = key_to 0 page
key_among (segment ∷ segments) page = if nat_lt page segment.1 then key_to segment.0 page else key_among segments (page - segment.1)

abbrev pub key_of_page : Layout → ℕ → Key
key_of_page directory page = key_among directory.segments page
