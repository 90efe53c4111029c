-- An attempt under way, and the contest of it where others hold what it asks for.
use Rattle.std.specs.Prelude.{◌≡◌, ℕ, ◌≤◌, ◌==◌, ◌&&◌, not, Bool, true, List, ◌++◌, length, Some, slice_index_or}
use Rattle.desk_law.specs.Below.{after, InFlight, breaks_cycles, Contest, Contested, Counts, Desk, Active, FlatStore, Grant, IsWholeStore, Lines, nobody, numbers, Plain, row, size, touched, touched_within, waits_for, wanted}
use Rattle.desk_law.specs.Beside.{over_all}
use Rattle.desk_law.specs.Consistent.{IsAmong, AreConsistent, IsHeld, HasNoCycle}

-- the lines that were touched
abbrev pub touched_of : FlatStore → Active → Lines
touched_of store entry = touched_within entry.runs.program entry.runs.args store entry.rows

-- the entry of an attempt, marked waiting
abbrev pub marked_waiting : InFlight → Active
marked_waiting attempt = record attempt.entry { waiting = true }

-- the instruction under way, with the lines that its attempt over the bytes of all touched
abbrev pub served_attempt : Desk → Active → Plain → List ℕ → InFlight
served_attempt desk entry now bytes =
    record {
      entry = entry;
      now = now;
      outcome = row entry.runs.program desk.committed.directory now;
      lines = touched entry.runs.program desk.committed.directory (over_all now bytes);
    }

-- the waits without those of one number
abbrev pub except : ℕ → (ℕ → ℕ → Bool) → ℕ → ℕ → Bool
except one waits from to = not (from == one) && waits from to

-- consistent, but for cycles through one number
pub record IsContending (one : ℕ) (desk : Desk) : Type 0 where
  pub whole : IsWholeStore desk.committed
  pub few : length desk.active ≤ desk.most_active
  pub active : AreConsistent desk.committed desk.most_lines desk.next desk.active
  pub held : IsHeld desk.committed desk.active desk.authority
  pub no_cycle : HasNoCycle (except one (waits_for desk)) (numbers desk)

-- an attempt whose row may go on, at a desk: the entry may be marked
pub record MayGoOn (attempt : InFlight) (desk : Desk) : Type 0 where
  pub contending : IsContending attempt.entry.number desk
  pub mark : Bool
  pub here : IsAmong desk.active (record attempt.entry { waiting = mark })
  pub now : after attempt.entry.runs.program attempt.entry.runs.args desk.committed attempt.entry.rows ≡ Some attempt.now
  pub went : row attempt.entry.runs.program desk.committed.directory attempt.now ≡ attempt.outcome
  pub lines : attempt.lines ≡ wanted desk attempt.entry
  pub short : size ((touched_of desk.committed attempt.entry).writes ++ (wanted desk attempt.entry).writes) ≤ desk.most_lines

-- what a contest of a number comes to from a desk
abbrev pub contest : ℕ → Desk → Counts → Contest
contest number desk counts = breaks_cycles (length desk.active) number (Contested desk counts)

-- a number keeps the pages that it owns
abbrev pub KeepsPages : ℕ → (old new : List Grant) → Type 0
KeepsPages one old new = (page : ℕ) → ((slice_index_or old page nobody).owner == one) ≡ true → slice_index_or new page nobody ≡ slice_index_or old page nobody

-- A contest under way, of an entry that is marked: what the loop keeps beside the value of the contest.
pub record IsUnderWay (old desk : Desk) (entry : Active) : Type 0 where
  pub contending : IsContending entry.number desk
  pub here : IsAmong desk.active entry
  pub store : desk.committed ≡ old.committed
  pub limit : desk.most_lines ≡ old.most_lines
  pub keeps : KeepsPages entry.number old.authority desk.authority
