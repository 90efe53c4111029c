-- The answer of a storage to an access.
use Rattle.std.specs.Prelude.{◌≡◌, ◌≢◌, ℕ, ◌+◌, ◌<◌, Bool, false, not, List, map, find, Option, Some, None, Result, Ok, Err}
use Rattle.std.specs.List.{range_with_len}
use Rattle.page_table.specs.declared.segment_regs.Check.{Check}
use Rattle.lines.specs.declared.line_geometry.PageSize.{PageSize}
use Rattle.page_table.specs.declared.segment_regs.Virtual.{Virtual}
use Rattle.page_table.specs.Registers.{Registers, bytes_on, located_by}
use Rattle.flat_machine.specs.Access.{FitsFrom}
use Rattle.romp_cpu.specs.declared.storage.Access.{Access}
use Rattle.romp_cpu.specs.declared.storage.Fault.{Fault}
use Rattle.romp_cpu.specs.declared.storage.Probe.{Probe}
use Rattle.romp_cpu.specs.Shown.{access_to}

-- where each byte of a range lies
abbrev pub bytes_of_range : PageSize → Virtual → (count : ℕ) → List Virtual
bytes_of_range page first count = map (bytes_on page first) (range_with_len 0 count)

-- the first byte that is refused, if there is one
abbrev pub unless_refused_at : Option Virtual → Probe
unless_refused_at None = Probe.Permitted
unless_refused_at (Some at) = Probe.Fault (Fault.Lock at)

-- the first byte whose page is in no frame, if there is one, and else the first that is refused
abbrev pub unless_absent_at : Option Virtual → Option Virtual → Probe
unless_absent_at None refused = unless_refused_at refused
unless_absent_at (Some at) refused = Probe.Fault (Fault.Page at)

-- the answer to an access that lies at these bytes, or nowhere
abbrev pub answered_at : PageSize → (is_in_frame : Virtual → Bool) → (refuses : Virtual → Bool → Bool) → Access → Result Virtual Check → Probe
answered_at page is_in_frame refuses access (Err check) = Probe.Check check.0
answered_at page is_in_frame refuses access (Ok first) =
    unless_absent_at
    (find (λ at. not (is_in_frame at)) (bytes_of_range page first access.bytes))
    (find (λ at. refuses at access.store) (bytes_of_range page first access.bytes))

-- the answer to an access: a check as it is located; else the first page by address that is in no frame; else the first
-- whose entry refuses; else it is permitted
abbrev pub answered : Registers → (is_in_frame : Virtual → Bool) → (refuses : Virtual → Bool → Bool) → Access → Probe
answered registers is_in_frame refuses access =
    answered_at registers.page is_in_frame refuses access (located_by registers access.address access.bytes access.store)

-- the same in each state
abbrev pub answer_in : {S : Type 0} → (S → Registers) → (S → Virtual → Bool) → (S → Virtual → Bool → Bool) → S → Access → Probe
answer_in registers is_in_frame refuses state = answered (registers state) (is_in_frame state) (refuses state)

-- an access of so many bytes is permitted
abbrev pub Admits : {S : Type 0} → (S → Registers) → (S → Virtual → Bool) → (S → Virtual → Bool → Bool) → S → (address bytes : ℕ) → Bool → Type 0
Admits registers is_in_frame refuses state address bytes store =
    answer_in registers is_in_frame refuses state (access_to address bytes store) ≡ Probe.Permitted

-- an access loads, or stores, registers from one upwards
pub record FitsRegisters (wants : Access) (store : Bool) (register : ℕ) : Type 0 where
  pub kind : wants.store ≡ store
  pub fits : FitsFrom wants.bytes register

-- the answer that a result tells of
abbrev pub answer_of : {A : Type 0} → Result A Probe → Probe
answer_of (Ok value) = Probe.Permitted
answer_of (Err probe) = probe

-- an answer that doesn't permit
abbrev pub IsRefusal : Probe → Type 0
IsRefusal Probe.Permitted = ⊥
IsRefusal _ = Unit {0}

-- what is after an access: this where it is permitted, and else what was before
abbrev pub if_permitted : {A : Type 0} → Probe → (after before : A) → A
if_permitted Probe.Permitted after before = after
if_permitted _ after before = before

-- an address names no byte of a range: no byte of it is at the same place as the address's byte
abbrev pub IsOutside : Registers → (address count other : ℕ) → Type 0
IsOutside registers address count other = (k : ℕ) → k < count → located_by registers other 1 false ≢ located_by registers (address + k) 1 false
