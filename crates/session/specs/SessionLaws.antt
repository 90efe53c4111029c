-- What holds of each desk that a session shows, and of each cycle that a turn records.
use Rattle.std.specs.Prelude.{◌≡◌, ◌<◌, ◌≤◌, ◌==◌, ℕ, true, IsFalse, List, [], ◌∷◌, find, Some}
use Rattle.session.specs.Below.{breaks_cycles, Contested, Counts, Desk, Active, FlatStore, has, Idle, IsWholeStore, Limit, no_counts, number_in, numbers, opened, Over, over_all, Program, run, shown, state_in, turn, waits_for, with_active, DiskWord}
use Rattle.lines.specs.Waits.{shown_cycle}
use Rattle.desk.specs.declared.event.Event.{Event}
use Rattle.desk_law.specs.Causes.{IsOverFor, turn_counts}
use Rattle.desk_law.specs.Consistent.{IsAmong, IsConsistent}
use Rattle.desk_law.specs.DeskLaws.{EachWaits, IsActive}
use Rattle.desk_law.specs.Memory.{Machine, memory_after, opening_memory}
use Rattle.session.specs.declared.session.SessionState.{SessionState}
use Rattle.session.specs.Session.{activity}
use Rattle.session.specs.Shown.{ShowsDesk}

-- The law: a desk that a session shows is consistent.
abbrev pub ShownIsConsistent : Type 0
ShownIsConsistent = (s : SessionState) (held : List ℕ) (desk : Desk) → ShowsDesk s held desk → IsConsistent desk

-- The law: where somebody is active at such a desk, somebody who is active waits for nobody.
abbrev pub SomebodyGoesOn : Type 0
SomebodyGoesOn =
    (s : SessionState) (held : List ℕ) (desk : Desk) (entry : Active) → ShowsDesk s held desk → IsAmong desk.active entry
    → (other : Active) × IsAmong desk.active other × ((number : ℕ) → IsFalse (waits_for desk other.number number))

-- The law: from such a desk each turn of who is active ends for its cause, however it goes on the disk, and one of who isn't active is idle:
-- the desk stays, and nothing is counted.
abbrev pub ShownTurnsEnd : Type 0
ShownTurnsEnd =
    (s : SessionState) (held : List ℕ) (desk : Desk) (word : DiskWord) (number limit : ℕ) → ShowsDesk s held desk
    → ((entry : Active) → IsAmong desk.active entry → IsOverFor word limit desk entry (turn word entry.number limit desk))
    × ((¬ (IsActive desk number)) → turn word number limit desk ≡ Over desk no_counts Idle)

-- A cycle was met in a turn. After so many of its rows the turn had come to a desk at which, with these pages resident, its entry was
-- marked waiting and its contest went this many rounds; there the cycle was shown, and each of its members waits for the next.
pub record WasMet (word : DiskWord) (number limit : ℕ) (desk : Desk) (cycle : List ℕ) : Type 0 where
  pub rows : ℕ
  pub few : rows < limit
  pub at : Desk
  pub counted : Counts
  pub came : turn word number rows desk ≡ Over at counted Limit
  pub entry : Active
  pub is : find (λ entry. entry.number == number) at.active ≡ Some entry
  pub resident : List ℕ
  pub rounds : ℕ
  pub before : Counts
  pub after : Counts
  pub met : Desk
  pub contest : breaks_cycles rounds entry.number (Contested (with_active (record at { resident = resident }) (record entry { waiting = true })) before) ≡ Contested met after
  pub is_shown : shown_cycle (waits_for met) (numbers met) entry.number ≡ Some cycle
  pub waits : EachWaits (waits_for met) cycle

-- each of these was
abbrev pub WereMet : DiskWord → (number limit : ℕ) → Desk → List (List ℕ) → Type 0
WereMet word number limit desk [] = Unit {0}
WereMet word number limit desk (cycle ∷ cycles) = WasMet word number limit desk cycle × WereMet word number limit desk cycles

-- The law: each cycle that a turn records was met in it, at whatever desk it begins.
abbrev pub CyclesWereMet : Type 0
CyclesWereMet = (word : DiskWord) (number limit : ℕ) (desk : Desk) → WereMet word number limit desk (turn_counts (turn word number limit desk)).cycles

-- The law: where a session shows the desk of a run, beside which plain machines ran on one memory without locks of their own, what runs in a
-- taken seat is where the machine of its activation is: registers, status, address, private bytes and printed bytes. And all see the
-- bytes of that memory.
abbrev pub ShownIsIsolated : Type 0
ShownIsIsolated =
    (s : SessionState) (held : List ℕ) (programs : List Program) (frames most_active most_lines : ℕ) (store : FlatStore) (events : List (Event × DiskWord))
    → IsWholeStore store → 2 ≤ frames → ShowsDesk s held (run programs events (opened frames most_active most_lines store))
    → ((seat : ℕ) → has (activity s).seating.taken seat ≡ true
    → (machine : Machine)
    × ((memory_after programs events (opened frames most_active most_lines store) (opening_memory store)).machines (number_in (activity s).seating seat) ≡ Some machine)
    × (over_all machine.state [] ≡ over_all (state_in (activity s) seat) []))
    × ((memory_after programs events (opened frames most_active most_lines store) (opening_memory store)).bytes
    ≡ shown (activity s) (memory_after programs events (opened frames most_active most_lines store) (opening_memory store)).committed)
