-- The laws of a desk at every moment.
use Rattle.std.specs.Prelude.{◌≡◌, ℕ, ◌≤◌, ◌||◌, Bool, true, false, IsTrue, IsFalse, List, [], ◌∷◌, ◌++◌, slice_index_or, Some, None}
use Rattle.desk_law.specs.Below.{after, InFlight, breaks_cycle, breaks_cycles, conflicts_of, Contest, Contested, Counts, counts_refused, Desk, due_to, Active, Event, FlatStore, gets, Grant, has, Idle, is_fine_page, IsWholeStore, lets, Lines, Lost, no_counts, nobody, numbers, opened, Over, page_of_line, Plain, Program, refused_pages, requested, row, run, Settled, shown_cycle, step, turn, Turning, waits_for, wanted, with_active, DiskWord}
use Rattle.desk_law.specs.Consistent.{IsAmong, IsConsistent}

-- The law: a desk that is consistent is so after every event with every word.
abbrev pub StaysConsistent : Type 0
StaysConsistent =
    (programs : List Program) (event : Event) (word : DiskWord) (desk : Desk)
    → IsConsistent desk → IsConsistent (step programs event word desk).desk

-- The law: a desk that opens on a whole store with two frames or more is consistent after every run.
abbrev pub RunsStayConsistent : Type 0
RunsStayConsistent =
    (programs : List Program) (frames most_active most_lines : ℕ) (store : FlatStore) (events : List (Event × DiskWord))
    → IsWholeStore store → 2 ≤ frames → IsConsistent (run programs events (opened frames most_active most_lines store))

-- a number is that of an active entry
abbrev pub IsActive : Desk → ℕ → Type 0
IsActive desk number = (entry : Active) × IsAmong desk.active entry × (entry.number ≡ number)

-- a turn under way, or over and not idle
abbrev pub IsNotIdle : Turning → Type 0
IsNotIdle (Over desk counts Idle) = ⊥
IsNotIdle _ = Unit {0}

-- The law: a turn is idle exactly where its number isn't active, and then the desk stays and nothing is counted.
abbrev pub IdleWhereInactive : Type 0
IdleWhereInactive =
    (word : DiskWord) (number limit : ℕ) (desk : Desk) → IsConsistent desk
    → (IsActive desk number → IsNotIdle (turn word number limit desk))
    × ((¬ (IsActive desk number)) → turn word number limit desk ≡ Over desk no_counts Idle)

-- an authority of each page permits a number all these lines
pub record ArePermitted (authority : List Grant) (number : ℕ) (lines : Lines) : Type 0 where
  pub reads : (line : ℕ) → IsTrue (has lines.reads line) → IsTrue (lets (slice_index_or authority (page_of_line line) nobody) number line false)
  pub writes : (line : ℕ) → IsTrue (has lines.writes line) → IsTrue (lets (slice_index_or authority (page_of_line line) nobody) number line true)

-- The law: an entry whose next row touches permitted lines alone conflicts with nobody.
abbrev pub PermittedIsFree : Type 0
PermittedIsFree =
    (desk : Desk) (entry : Active) → IsConsistent desk → IsAmong desk.active entry
    → ArePermitted desk.authority entry.number (wanted desk entry) → conflicts_of desk entry ≡ []

-- an entry's next row, at its state
abbrev pub next_attempt : Desk → Active → Plain → InFlight
next_attempt desk entry now =
    record { entry = entry; now = now; outcome = row entry.runs.program desk.committed.directory now; lines = wanted desk entry }

-- The law: a row of which no entry refuses a line conflicts with nobody, and gets on without asking: the desk that asks at each row, and one that asks where
-- an entry refuses alone, do the same.
abbrev pub UnrefusedAsksNothing : Type 0
UnrefusedAsksNothing =
    (word : DiskWord) (desk : Desk) (counts : Counts) (entry : Active) (now : Plain) → IsConsistent desk → IsAmong desk.active entry
    → after entry.runs.program entry.runs.args desk.committed entry.rows ≡ Some now
    → refused_pages (next_attempt desk entry now) desk ≡ []
    → (conflicts_of desk entry ≡ []) × (counts_refused word (next_attempt desk entry now) desk counts ≡ gets word (next_attempt desk entry now) [] desk counts)

-- The law: a row that writes into fine pages alone asks for the lines that it touches, to read each that it writes, and for no others.
abbrev pub FineRowsAskForTheirLines : Type 0
FineRowsAskForTheirLines =
    (desk : Desk) (entry : Active)
    → ((line : ℕ) → IsTrue (has (wanted desk entry).writes line) → IsTrue (is_fine_page desk.committed.directory (page_of_line line)))
    → (line : ℕ) → has (requested desk.committed entry).reads line ≡ (has (wanted desk entry).reads line || has (wanted desk entry).writes line)

-- The law: between two instructions all lines of a page whose write bit is on are held to read by its owner, if that is active.
abbrev pub WriteBitsHoldPages : Type 0
WriteBitsHoldPages =
    (desk : Desk) (entry : Active) (page line : ℕ) → IsConsistent desk → IsAmong desk.active entry
    → (slice_index_or desk.authority page nobody).owner ≡ entry.number → (slice_index_or desk.authority page nobody).write ≡ true
    → page_of_line line ≡ page → IsTrue (has (due_to desk.committed entry).reads line)

-- The law: where somebody is active, somebody who is active waits for nobody.
abbrev pub SomebodyCanGoOn : Type 0
SomebodyCanGoOn =
    (desk : Desk) (entry : Active) → IsConsistent desk → IsAmong desk.active entry
    → (other : Active) × IsAmong desk.active other × ((number : ℕ) → IsFalse (waits_for desk other.number number))

-- each member of a list waits for the next
abbrev pub EachWaits : (waits : ℕ → ℕ → Bool) → List ℕ → Type 0
EachWaits waits [] = Unit {0}
EachWaits waits (one ∷ []) = Unit {0}
EachWaits waits (one ∷ other ∷ rest) = IsTrue (waits one other) × EachWaits waits (other ∷ rest)

-- what a contest has counted
abbrev pub contest_counts : Contest → Counts
contest_counts (Contested desk counts) = counts
contest_counts (Settled desk counts) = counts
contest_counts (Lost desk counts) = counts

-- The law: where the cycle of a number is broken, it is recorded behind those before it, it begins with the number, and each of its members
-- waits for the next at the desk at which it was found. Where there is none, nothing is recorded.
abbrev pub BrokenCyclesWere : Type 0
BrokenCyclesWere =
    (number : ℕ) (desk : Desk) (counts : Counts)
    → ((cycle : List ℕ) → shown_cycle (waits_for desk) (numbers desk) number ≡ Some cycle
    → ((contest_counts (breaks_cycle number (Some cycle) desk counts)).cycles ≡ counts.cycles ++ cycle ∷ [])
    × ((rest : List ℕ) × (cycle ≡ number ∷ rest)) × EachWaits (waits_for desk) cycle)
    × (contest_counts (breaks_cycle number None desk counts) ≡ counts)

-- the last of a list is this number
abbrev pub IsLast : ℕ → List ℕ → Type 0
IsLast number [] = ⊥
IsLast number (one ∷ []) = one ≡ number
IsLast number (one ∷ other ∷ rest) = IsLast number (other ∷ rest)

-- The law: in whatever round of the contest of an entry of a consistent desk, a cycle that is found ends with the number with which it begins.
abbrev pub ContestedCyclesClose : Type 0
ContestedCyclesClose =
    (desk met : Desk) (entry : Active) (counts counted : Counts) (rounds : ℕ) (cycle : List ℕ) → IsConsistent desk → IsAmong desk.active entry
    → breaks_cycles rounds entry.number (Contested (with_active desk (record entry { waiting = true })) counts) ≡ Contested met counted
    → shown_cycle (waits_for met) (numbers met) entry.number ≡ Some cycle → IsLast entry.number cycle
