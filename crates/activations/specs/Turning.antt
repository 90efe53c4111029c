-- What instructions and turns come to, stage by stage and as they are answered.
use Rattle.std.specs.Prelude.{[], ◌≡◌, ◌≢◌, ℕ, List, map, Result, Ok, Err, ◌+◌, ◌<◌, ◌≤◌, ◌∷◌, length, Bool, Option, Some}
use Rattle.activations.specs.Below.{Access, after, InFlight, Authority, byte_count, Commit, commits, Counts, Desk, Disk, ending_told, Ghosts, Going, holders, IsClean, lines_wanted, number_in, On, Over, over_all, Plain, ReadFailed, Reads, Request, Rose, row, TurnEnd, Turning, turns, Want, wanted, DiskWord}
use Rattle.activations.specs.declared.tally.Tally.{Tally}
use Rattle.activations.specs.Activity.{Activity, desk_over, live_in, program_in, entry_in, store_over, shown}
use Rattle.activations.specs.Follows.{KeepsDesk}
use Rattle.activations.specs.Serving.{ComesToEnd, IsFree, IsContested, Goes, asking, AreLowered, pages_lowered, with_entries}
use Rattle.activations.specs.declared.live.Live.{Live}
use Rattle.activations.specs.declared.touched_lines.TouchedLines.{TouchedLines}
use Rattle.activations.specs.Steps.{counted, executed, HasExecuted}
use Rattle.activations.specs.Touched.{wants_of, pages_picked, with_whole_page}
use Rattle.activations.specs.declared.instructions.StepWent.{StepWent}
use Rattle.activations.specs.Kept.{IsLineShut}
use Rattle.desk.specs.declared.answers.TurnEnd.TheVariants as end
use Rattle.desk.specs.Instruction as desk
use Rattle.activations.specs.declared.instructions.StepWent.TheVariants as went

-- what a turn has counted
abbrev pub tally_counts : Tally → Counts
tally_counts tally =
    record {
      ran = tally.ran;
      pages = tally.pages;
      locks = tally.locks;
      cycles = map (λ cycle. cycle.members.items) tally.cycles.items;
    }

-- the page that was counted last couldn't be read
pub record HasBroken (begins : DiskWord → Turning) (a : Activity) (committed : List ℕ) (order : List (ℕ × ℕ)) (counts : Counts) : Type 0 where
  pub comes : begins (ReadFailed counts.pages) ≡ Over (desk_over a committed order) counts Disk
  pub follows : KeepsDesk a committed

-- it came to this end
abbrev pub HasEnded : TurnEnd → (begins : DiskWord → Turning) → Activity → (committed : List ℕ) → (order : List (ℕ × ℕ)) → Counts → Type 0
HasEnded end.Disk begins a committed order counts = HasBroken begins a committed order counts
HasEnded end begins a committed order counts = (printed : List ℕ) → ComesToEnd begins a committed order counts (ending_told end printed)

-- a contest ends as one's own loss, or with him waiting for some that hold what he asks for
abbrev pub IsContestEnd : (number : ℕ) → TurnEnd → Type 0
IsContestEnd number end.Victim = Unit {0}
IsContestEnd number (end.Waits waiter holders) = (waiter ≡ number) × (holders.items ≢ [])
IsContestEnd number _ = ⊥

-- wherever a contest of who sits in a seat began, this follows of what began, of the attempt, of what was committed and of the order
abbrev pub FromContest : (seat : ℕ) → Activity → Counts → (follows : (DiskWord → Turning) → InFlight → List ℕ → Desk → List ℕ → List (ℕ × ℕ) → Type 0) → Type 0
FromContest seat old before follows =
    (begins : DiskWord → Turning) (attempt : InFlight) (refused : List ℕ) (first : Desk) (committed : List ℕ) (order : List (ℕ × ℕ))
    → attempt.entry.number ≡ number_in old.seating seat → IsContested begins attempt refused first old committed order before → follows begins attempt refused first committed order

-- what is contested at first is contested from here
abbrev pub Contests : (seat : ℕ) → (old : Activity) → (before : Counts) → (now : Activity) → (after : Counts) → Type 0
Contests seat old before now after = FromContest seat old before (λ begins attempt refused first committed order. IsContested begins attempt refused first now committed order after)

-- a contest is over: nobody holds any more what was asked for, or the turn came to its end
abbrev pub IsSettled : {U : Type 0} → Result U TurnEnd → (begins : DiskWord → Turning) → InFlight → (refused : List ℕ) → Activity → (committed : List ℕ) → (order : List (ℕ × ℕ)) → Counts → Type 0
IsSettled (Ok nothing) begins attempt refused a committed order counts = IsFree begins attempt refused a committed order counts
IsSettled (Err end) begins attempt refused a committed order counts = HasEnded end begins a committed order counts

-- what is contested at first is settled so
abbrev pub Settles : {U : Type 0} → (seat : ℕ) → (old new : Activity) → (before after : Tally) → Result U TurnEnd → Type 0
Settles seat old new before after result =
    FromContest seat old (tally_counts before) (λ begins attempt refused first committed order. IsSettled result begins attempt refused new committed order (tally_counts after))

-- at most four pages more were counted, two before grants and two after them, and two refused ones
pub record TalliesMore (old new : Tally) : Type 0 where
  pub ran : new.ran ≡ old.ran
  pub pages_before : old.pages ≤ new.pages
  pub pages : new.pages ≤ old.pages + 4
  pub locks : new.locks ≤ old.locks + 2

-- an end of a turn before its commit call: the disk's faults have risen where the page that was counted last couldn't be read,
-- and nowhere else
abbrev pub IsEndOfRows : {W : Type 0} → Ghosts W → (before after : W) → (old new : Tally) → TurnEnd → Type 0
IsEndOfRows G before after old new end.Disk = Rose (G.disk_faults before) (G.disk_faults after) × (old.pages < new.pages)
IsEndOfRows G before after old new end.Idle = ⊥
IsEndOfRows G before after old new (end.Committed number steps) = ⊥
IsEndOfRows G before after old new (end.Closed doubt number) = ⊥
IsEndOfRows G before after old new end.Shut = ⊥
IsEndOfRows G before after old new _ = G.disk_faults after ≡ G.disk_faults before

-- where an end is a wait, it is told of this activation and of some that hold what it asks for
abbrev pub IfWaits : (number : ℕ) → TurnEnd → Type 0
IfWaits number (end.Waits waiter holders) = (waiter ≡ number) × (holders.items ≢ [])
IfWaits number _ = Unit {0}

-- wherever an instruction began, the row of who sits in a seat took effect, and is still to be counted
abbrev pub GoesUncounted : (begins : DiskWord → Turning) → Activity → (seat : ℕ) → (committed : List ℕ) → (order : List (ℕ × ℕ)) → Counts → Type 0
GoesUncounted begins a seat committed order counts = Goes begins (counted a seat 1) committed order (record counts { ran = counts.ran + 1 })

-- that, or its turn came to this end
abbrev pub IsInstruction : {U : Type 0} → Result U TurnEnd → (begins : DiskWord → Turning) → Activity → (seat : ℕ) → (committed : List ℕ) → (order : List (ℕ × ℕ)) → Counts → Type 0
IsInstruction (Ok nothing) begins a seat committed order counts = GoesUncounted begins a seat committed order counts
IsInstruction (Err end) begins a seat committed order counts = HasEnded end begins a committed order counts

-- what is asked for in a seat is free where nobody holds it, and else contested
pub record IsWanted (begins : DiskWord → Turning) (attempt : InFlight) (refused : List ℕ) (a : Activity) (seat : ℕ) (wants : List Want) (committed : List ℕ) (order : List (ℕ × ℕ)) (counts : Counts) : Type 0 where
  pub number : attempt.entry.number ≡ number_in a.seating seat
  pub free : holders a.seating seat (map (with_whole_page a.reach.directory) wants) ≡ [] → IsFree begins attempt refused a committed order counts
  pub contested : (request : Request) (holder : ℕ) (others : List ℕ) → request.wants.items ≡ map (with_whole_page a.reach.directory) wants → holders a.seating seat (map (with_whole_page a.reach.directory) wants) ≡ holder ∷ others
      → IsContested begins attempt refused (desk_over a committed order) (asking a seat request) committed order counts

-- the pages that a row touches are there, and what it asks for is to be got
pub record IsPrepared (begins : DiskWord → Turning) (a : Activity) (seat : ℕ) (touch : TouchedLines) (refused : Bool × Bool) (committed : List ℕ) (order : List (ℕ × ℕ)) (counts : Counts) : Type 0 where
  pub attempt : InFlight
  pub next : Plain
  pub goes : attempt.outcome ≡ On next
  pub lines : attempt.lines ≡ lines_wanted (wants_of touch)
  pub asked : IsWanted begins attempt (pages_picked touch refused) a seat (wants_of touch) committed order counts

-- that, or its turn came to this end
abbrev pub Prepares : Result (TouchedLines × (Bool × Bool)) TurnEnd → (begins : DiskWord → Turning) → Activity → (seat : ℕ) → (committed : List ℕ) → (order : List (ℕ × ℕ)) → Counts → Type 0
Prepares (Ok got) begins a seat committed order counts = IsPrepared begins a seat got.0 got.1 committed order counts
Prepares (Err end) begins a seat committed order counts = HasEnded end begins a committed order counts

-- What it asked for was got: once it has taken effect, and the write bits of the fine pages that it wrote into went off, that is the
-- desk's instruction.
pub record IsServed (begins : DiskWord → Turning) (a : Activity) (seat : ℕ) (wants : List Want) (committed : List ℕ) (order : List (ℕ × ℕ)) (counts : Counts) : Type 0 where
  pub goes : (live : Live) (bytes : List ℕ) (marked : List (List ℕ)) (eased : List Authority) → HasExecuted a seat live bytes marked committed
      → AreLowered a seat (pages_lowered a seat wants) a.reach.entries eased
      → GoesUncounted begins (with_entries (executed a seat live bytes marked) eased) seat committed order counts
  pub long : length committed ≡ byte_count a.reach.directory
  pub clean : IsClean a.reach.directory a.reach.pool committed

-- that, or its turn came to this end
abbrev pub Serves : {U : Type 0} → Result U TurnEnd → (begins : DiskWord → Turning) → Activity → (seat : ℕ) → (wants : List Want) → (committed : List ℕ) → (order : List (ℕ × ℕ)) → Counts → Type 0
Serves (Ok nothing) begins a seat wants committed order counts = IsServed begins a seat wants committed order counts
Serves (Err end) begins a seat wants committed order counts = HasEnded end begins a committed order counts

-- the commit call of who sits in a seat, at a state
abbrev pub commit_call : Activity → (seat : ℕ) → (committed : List ℕ) → (order : List (ℕ × ℕ)) → Plain → desk.InFlight
commit_call a seat committed order now =
    record { entry = entry_in a seat; now = now; outcome = row (program_in a seat) a.reach.directory now; lines = wanted (desk_over a committed order) (entry_in a seat) }

-- who sits in a seat is at his commit call
pub record IsAtCommit (begins : DiskWord → Turning) (a : Activity) (seat : ℕ) (committed : List ℕ) (order : List (ℕ × ℕ)) (counts : Counts) : Type 0 where
  pub now : Plain
  pub at : after (program_in a seat) (entry_in a seat).runs.args (store_over a committed) (entry_in a seat).rows ≡ Some now
  pub goes : row (program_in a seat) a.reach.directory (over_all now (shown a committed)) ≡ Commit
  pub comes : (word : DiskWord) → Reads word counts.pages → begins word ≡ commits word (commit_call a seat committed order now) (desk_over a committed order) counts
  pub follows : KeepsDesk a committed

-- an instruction took effect, is the commit call, or ended its turn
abbrev pub IsStepTaken : Result StepWent TurnEnd → (begins : DiskWord → Turning) → Activity → (seat : ℕ) → (committed : List ℕ) → (order : List (ℕ × ℕ)) → Counts → Type 0
IsStepTaken (Ok went.On) begins a seat committed order counts = GoesUncounted begins a seat committed order counts
IsStepTaken (Ok went.AtCommit) begins a seat committed order counts = IsAtCommit begins a seat committed order counts
IsStepTaken (Err end) begins a seat committed order counts = HasEnded end begins a committed order counts

-- a turn of who sits in a seat, with at most so many rows, and with what it has counted
abbrev pub turn_in : Activity → (seat limit : ℕ) → (committed : List ℕ) → (order : List (ℕ × ℕ)) → Counts → DiskWord → Turning
turn_in a seat limit committed order counts word = turns word (number_in a.seating seat) limit (Going (desk_over a committed order) counts)

-- the rows of a turn went up to the commit call, or to its end
abbrev pub AreTurns : {U : Type 0} → Result U TurnEnd → (begins : DiskWord → Turning) → Activity → (seat : ℕ) → (committed : List ℕ) → (order : List (ℕ × ℕ)) → Counts → Type 0
AreTurns (Ok nothing) begins a seat committed order counts = IsAtCommit begins a seat committed order counts
AreTurns (Err end) begins a seat committed order counts = HasEnded end begins a committed order counts

-- it may be known already that the next row's access isn't permitted
abbrev pub MayBeShut : Activity → (seat : ℕ) → Option Access → Type 0
MayBeShut a seat shut = (access : Access) → shut ≡ Some access → IsLineShut a seat access

-- Wherever a turn began, it comes to so many rows more from here, at the most.
pub record IsTurning (begins : DiskWord → Turning) (a : Activity) (seat left : ℕ) (committed : List ℕ) (order : List (ℕ × ℕ)) (counts : Counts) : Type 0 where
  pub comes : (word : DiskWord) → Reads word counts.pages → begins word ≡ turn_in a seat left committed order counts word
  pub follows : KeepsDesk a committed

-- that, or the turn came to its end
abbrev pub ComesBack : {U : Type 0} → Result U TurnEnd → (begins : DiskWord → Turning) → Activity → (seat left : ℕ) → (committed : List ℕ) → (order : List (ℕ × ℕ)) → Counts → Type 0
ComesBack (Ok shut) begins a seat left committed order counts = IsTurning begins a seat left committed order counts
ComesBack (Err end) begins a seat left committed order counts = HasEnded end begins a committed order counts

-- a seat is selected
abbrev pub selected_in : Activity → (seat : ℕ) → Activity
selected_in a seat = record a { reach = record a.reach { registers = (live_in a seat).registers; runner = seat + 1 } }
