-- Why turns and activations end.
use Rattle.std.specs.Prelude.{◌≢◌, ◌≡◌, ℕ, ◌+◌, ◌<◌, ◌==◌, ◌⊎◌, map, Bool, true, false, IsTrue, List, [], ◌∷◌, ◌++◌, Some}
use Rattle.desk_law.specs.Below.{after, Check, Checked, Commit, CommitDoubted, Committed, CommitUnwritten, conflicts_of, Counts, Desk, Disk, Doubt, Ending, Active, FlatStore, Going, has, Idle, Journal, Limit, numbers, Outcome, Over, Plain, ReadFailed, row, size, touched_next, touched_within, turn, Turning, Unwritten, Victim, victim_of, Waits, DiskWord}
use Rattle.desk_law.specs.Consistent.{IsAmong, IsConsistent}

-- the row of an entry after so many rows more goes so at a state
abbrev pub RowIs : FlatStore → Active → (ran : ℕ) → Plain → Outcome → Type 0
RowIs store entry ran now outcome =
    (after entry.runs.program entry.runs.args store (entry.rows + ran) ≡ Some now) × (row entry.runs.program store.directory now ≡ outcome)

-- how many lines an entry will have written after so many rows more and the next one
abbrev pub written_after : FlatStore → Active → (ran : ℕ) → ℕ
written_after store entry ran =
    size
    ((touched_within entry.runs.program entry.runs.args store (entry.rows + ran)).writes
    ++ (touched_next entry.runs.program entry.runs.args store (entry.rows + ran)).writes)

-- the entry after so many rows more, marked waiting
abbrev pub waiting_after : Active → (ran : ℕ) → Active
waiting_after entry ran = record entry { rows = entry.rows + ran; waiting = true }

-- the cause of an end, by the desk and the entry at the turn's begin and the desk at its end
abbrev pub EndsForCause : DiskWord → (limit : ℕ) → Desk → Active → (later : Desk) → Counts → Ending → Type 0
EndsForCause word limit desk entry later counts Idle = ⊥
EndsForCause word limit desk entry later counts Limit = counts.ran ≡ limit
EndsForCause word limit desk entry later counts (Checked code address) =
    (now : Plain) × RowIs desk.committed entry counts.ran now (Check code) × (address ≡ now.iar)
EndsForCause word limit desk entry later counts (Journal lines most) =
    (lines ≡ written_after desk.committed entry counts.ran) × (most ≡ desk.most_lines) × (most < lines)
EndsForCause word limit desk entry later counts Disk = word ≡ ReadFailed counts.pages
EndsForCause word limit desk entry later counts Victim =
    (front : List (List ℕ)) × (cycle : List ℕ) × (counts.cycles ≡ front ++ cycle ∷ []) × (victim_of cycle ≡ entry.number)
EndsForCause word limit desk entry later counts (Waits holders) =
    IsAmong later.active (waiting_after entry counts.ran)
    × (conflicts_of later (waiting_after entry counts.ran) ≡ holders)
    × (holders ≢ [])
EndsForCause word limit desk entry later counts (Committed steps printed) =
    (ran : ℕ) × (counts.ran ≡ ran + 1) × (steps ≡ entry.rows + ran + 1)
    × ((now : Plain) × RowIs desk.committed entry ran now Commit × (printed ≡ now.out))
EndsForCause word limit desk entry later counts CommitUnwritten = (word ≡ Unwritten) × ((now : Plain) × RowIs desk.committed entry counts.ran now Commit)
EndsForCause word limit desk entry later counts CommitDoubted = (word ≡ Doubt) × ((now : Plain) × RowIs desk.committed entry counts.ran now Commit)

-- a turn is over, for its cause
abbrev pub IsOverFor : DiskWord → (limit : ℕ) → Desk → Active → Turning → Type 0
IsOverFor word limit desk entry (Going later counts) = ⊥
IsOverFor word limit desk entry (Over later counts ending) = EndsForCause word limit desk entry later counts ending

-- The law: each end of a turn of an active entry has its cause. At a limit so many rows were done; at a check and at a commit the row is
-- that one; a journal's lines are more than a record may have; a page that can't be read is the last one counted; a victim is that of the last
-- cycle recorded; and who waits is marked, and conflicts with those holders, who are some.
abbrev pub TurnsEndForCause : Type 0
TurnsEndForCause =
    (word : DiskWord) (limit : ℕ) (desk : Desk) (entry : Active) → IsConsistent desk → IsAmong desk.active entry
    → IsOverFor word limit desk entry (turn word entry.number limit desk)

-- the desk and the counts of a turn, and whether it is over by an end of its own activation
abbrev pub turn_desk : Turning → Desk
turn_desk (Going desk counts) = desk
turn_desk (Over desk counts ending) = desk

abbrev pub turn_counts : Turning → Counts
turn_counts (Going desk counts) = counts
turn_counts (Over desk counts ending) = counts

abbrev pub ends_own : Turning → Bool
ends_own (Over desk counts (Checked code address)) = true
ends_own (Over desk counts (Journal lines limit)) = true
ends_own (Over desk counts Disk) = true
ends_own (Over desk counts (Committed steps printed)) = true
ends_own _ = false

-- a number is that of an active entry still, or of the victim of a cycle that the turn recorded, or it is the turn's own, which ended itself
abbrev pub IsAccounted : (number : ℕ) → Turning → ℕ → Type 0
IsAccounted number turning other =
    IsTrue (has (numbers (turn_desk turning)) other)
    ⊎ (IsTrue (has (map victim_of (turn_counts turning).cycles) other)
    ⊎ (IsTrue (other == number) × IsTrue (ends_own turning)))

-- The law: who is active before a turn and not after it was the victim of a cycle that the turn recorded, or has the turn's number, and the turn
-- ended by its check, the limit on lines, a page that can't be read, or its commit.
abbrev pub EndsHaveCauses : Type 0
EndsHaveCauses =
    (word : DiskWord) (number limit : ℕ) (desk : Desk) (entry : Active) → IsAmong desk.active entry
    → IsAccounted number (turn word number limit desk) entry.number
