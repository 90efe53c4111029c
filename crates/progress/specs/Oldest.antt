-- The oldest of those that are active: no cycle of waits takes it out.
use Rattle.std.specs.Prelude.{◌≡◌, ◌≢◌, ℕ, ◌<◌, ◌≤◌, ◌==◌, ◌⊎◌, true, List, Some}
use Rattle.lines.specs.Sets.{has}
use Rattle.desk_law.specs.Causes.{ends_own, turn_desk}
use Rattle.lines.specs.Waits.{shown_cycle, victim_of}
use Rattle.desk.specs.Desk.{Active, Desk, with_active}
use Rattle.desk.specs.Holdings.{numbers, waits_for}
use Rattle.desk.specs.Instruction.{breaks_cycles, Contest, Contested, Settled, Lost, Counts, DiskWord, turn}
use Rattle.desk_law.specs.Consistent.{IsAmong, IsConsistent}
use Rattle.desk_law.specs.DeskLaws.{IsActive}

-- a number is active, and no smaller one is
pub record IsOldest (desk : Desk) (number : ℕ) : Type 0 where
  pub active : IsActive desk number
  pub least : (other : Active) → IsAmong desk.active other → number ≤ other.number

-- an entry of the desk, marked waiting
abbrev pub waiting_now : Active → Active
waiting_now entry = record entry { waiting = true }

-- The law: in whatever round of the contest of an entry of a consistent desk, somebody who is active is older than the victim of the cycle that is found.
abbrev pub VictimsHaveElders : Type 0
VictimsHaveElders =
    (desk met : Desk) (entry : Active) (counts counted : Counts) (rounds : ℕ) (cycle : List ℕ) → IsConsistent desk → IsAmong desk.active entry
    → breaks_cycles rounds entry.number (Contested (with_active desk (waiting_now entry)) counts) ≡ Contested met counted
    → shown_cycle (waits_for met) (numbers met) entry.number ≡ Some cycle
    → (elder : Active) × IsAmong met.active elder × (elder.number < victim_of cycle)

-- what a contest of a number spares: the oldest is active still, and who lost it himself wasn't the oldest
abbrev pub Spares : (oldest asks : ℕ) → Contest → Type 0
Spares oldest asks (Contested desk counts) = IsOldest desk oldest
Spares oldest asks (Settled desk counts) = IsOldest desk oldest
Spares oldest asks (Lost desk counts) = IsOldest desk oldest × (asks ≢ oldest)

-- The law: the contest of an entry of a consistent desk, whoever it is, leaves the oldest active, and is lost by the oldest never.
abbrev pub ContestsSpareTheOldest : Type 0
ContestsSpareTheOldest =
    (desk : Desk) (entry : Active) (counts : Counts) (rounds oldest : ℕ) → IsConsistent desk → IsAmong desk.active entry → IsOldest desk oldest
    → Spares oldest entry.number (breaks_cycles rounds entry.number (Contested (with_active desk (waiting_now entry)) counts))

-- no number of these is smaller
abbrev pub AreFrom : (least : ℕ) → List ℕ → Type 0
AreFrom least all = (number : ℕ) → has all number ≡ true → least ≤ number

-- The law: in a turn of whoever it is, the oldest who is active stays active, or the turn is its own and ended by its check, the limit on lines, a page that
-- can't be read, or its commit: never by a cycle.
abbrev pub TurnsSpareTheOldest : Type 0
TurnsSpareTheOldest =
    (word : DiskWord) (number limit : ℕ) (desk : Desk) (oldest : ℕ) → has (numbers desk) oldest ≡ true → AreFrom oldest (numbers desk)
    → (has (numbers (turn_desk (turn word number limit desk))) oldest ≡ true)
    ⊎ ((oldest == number) ≡ true) × (ends_own (turn word number limit desk) ≡ true)
