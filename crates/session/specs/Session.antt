-- A session, the desk that it is over committed bytes, and what holds of it at every moment.
use Rattle.std.specs.Prelude.{◌≡◌, ℕ, ◌+◌, ◌-◌, ◌*◌, ◌<◌, ◌≤◌, ◌^◌, false, List, length, vec_len, vec_capacity}
use Rattle.session.specs.Below.{Activity, AreRowsWithin, Desk, desk_over, Fixed, HasRanges, Header, StoreView, most_lines, store_number, order_told, Told}
use Rattle.activations.specs.Follows as running
use Rattle.session.specs.declared.session.SessionState.{SessionState}

-- what runs in it
abbrev pub activity : SessionState → Activity
activity s = s.activations

-- its commits
abbrev pub order_of : SessionState → List (ℕ × ℕ)
order_of s = order_told s.order.items

-- the header of its store
abbrev pub header_of_session : SessionState → Header
header_of_session s = s.store.header

-- what only its opening sets
abbrev pub fixed_of : SessionState → Fixed
fixed_of s = record { programs = (activity s).programs; opened = s.opened; header = s.store.header; begins = s.begins }

-- the number of its store
abbrev pub session_number : SessionState → ℕ
session_number s = store_number s.store

-- its store, as it is kept
abbrev pub store_told : SessionState → StoreView
store_told s = s.store

-- what it tells of itself; it is closed by a fault of the disk or by damage, and counts the turns that were asked of it
abbrev pub session_told : SessionState → Told
session_told s = record { closed = s.closed; fixed = fixed_of s; given = (activity s).next - 1; turns = s.turns; printed = s.printed; order = order_of s }

-- the desk that it is over committed bytes
abbrev pub session_desk : SessionState → (committed : List ℕ) → Desk
session_desk s committed = record (desk_over (activity s) committed (order_of s)) { closed = s.closed }

-- the numbers of begins, turns and commits fit
pub record HaveRoom (s : SessionState) : Type 0 where
  pub begun : (activity s).next ≤ s.begins + 1
  pub begin_numbers : s.begins + 1 < 2 ^ 32
  pub turned : s.turns ≤ 2 ^ 32
  pub rows : AreRowsWithin (activity s) (s.turns * 1000000)
  pub places : s.closed ≡ false → vec_len s.order + length (activity s).seating.taken + 1 ≤ (activity s).next
  pub order : s.begins ≤ vec_capacity s.order
  pub commits : vec_len s.order ≤ s.begins

-- what holds of a session at every moment
pub record IsSessionSound (s : SessionState) : Type 0 where
  pub ranges : HasRanges s.store.header
  pub running : running.AlwaysHolds (activity s)
  pub directory : s.store.header.directory ≡ (activity s).reach.directory
  pub most : most_lines s.store.header ≡ (activity s).most_lines
  pub room : HaveRoom s
  pub usable : s.closed ≡ false → s.store.bank.spoiled ≡ false

-- how many records the chosen bank of its store holds
abbrev pub records_told : SessionState → ℕ
records_told s = s.store.bank.count
