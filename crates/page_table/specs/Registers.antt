-- Sixteen segment registers, and where an effective address lies.
use Rattle.std.specs.Prelude.{ℕ, ◌+◌, ◌*◌, ◌/◌, ◌%◌, ◌^◌, nat_le, ◌==◌, ◌&&◌, not, if◌then◌else◌, Bool, true, List, map, find, slice_index_or, Option, Some, None, option_map, Result, Ok, Err}
use Rattle.std.specs.List.{range_with_len}
use Rattle.lines.specs.declared.line_geometry.PageSize.{PageSize}
use Rattle.lines.specs.Segments.{page_bytes}
use Rattle.page_table.specs.declared.segment_regs.Check.{Check}
use Rattle.page_table.specs.declared.segment_regs.SegmentRegister.{SegmentRegister}
use Rattle.page_table.specs.declared.segment_regs.Virtual.{Virtual}

-- the register of a window: after its number, a segment, the segment's bytes and whether it is to write
abbrev pub register_of : ℕ × ℕ × ℕ × Bool → SegmentRegister
register_of window = record { segment = window.1; bytes = window.2; write = window.3 }

-- the register with a number: that of the first window which has it
abbrev pub register_at : List (ℕ × ℕ × ℕ × Bool) → ℕ → Option SegmentRegister
register_at windows number = option_map register_of (find (λ window. window.0 == number) windows)

-- the private segment, to read and write
abbrev pub private_register : ℕ → SegmentRegister
private_register segment = record { segment = segment; bytes = 16384; write = true }

-- the register with a number: the private segment under 0, the windows under the others
abbrev pub register_with : ℕ → List (ℕ × ℕ × ℕ × Bool) → ℕ → Option SegmentRegister
register_with private windows number = if number == 0 then Some (private_register private) else register_at windows number

-- sixteen registers, and the size of the pages that their segments have
pub record Registers : Type 0 where
  pub page : PageSize
  pub list : List (Option SegmentRegister)

-- all sixteen
abbrev pub registers_with : PageSize → ℕ → List (ℕ × ℕ × ℕ × Bool) → Registers
registers_with page private windows = record { page = page; list = map (register_with private windows) (range_with_len 0 16) }

-- an offset of a segment: its page and its byte in the page, by the size of a page
abbrev pub virtual_at : PageSize → (segment offset : ℕ) → Virtual
virtual_at page segment offset = record { segment = segment; page = offset / page_bytes page; byte = offset % page_bytes page }

-- the address so many bytes on in the same segment
abbrev pub bytes_on : PageSize → Virtual → ℕ → Virtual
bytes_on page at count = virtual_at page at.segment (at.page * page_bytes page + at.byte + count)

-- so many bytes at an offset under a register: check 2 where there is none or the range passes its end, then check 7
-- for a store where it is to read
abbrev pub located_under : PageSize → Option SegmentRegister → (offset bytes : ℕ) → Bool → Result Virtual Check
located_under page None offset bytes store = Err (record { 0 = 2 })
located_under page (Some register) offset bytes store =
    if nat_le (offset + bytes) register.bytes
    then (if store && not register.write then Err (record { 0 = 7 }) else Ok (virtual_at page register.segment offset))
    else Err (record { 0 = 2 })

-- where an access lies: the four high bits of its address choose the register
abbrev pub located_by : Registers → (address bytes : ℕ) → Bool → Result Virtual Check
located_by registers address bytes store =
    located_under registers.page (slice_index_or registers.list (address / 2 ^ 28) None) (address % 2 ^ 28) bytes store
