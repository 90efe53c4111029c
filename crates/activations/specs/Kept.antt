-- What an attempt in a seat came to, what stays while those that run are served, and rows of what runs in a seat beside what it reaches.
use Rattle.std.specs.Prelude.{[], ◌≡◌, ◌⊎◌, ℕ, ◌+◌, ◌<◌, ◌≤◌, List, ◌∷◌, ◌++◌, length, slice_set, true, slice_index_or, Option, Some, None}
use Rattle.activations.specs.Below.{Access, byte_count, Check, Commit, Counts, Going, has, IsClean, IsShutOut, lines_wanted, number_in, On, Outcome, Plain, plain_over, private_bytes, Reach, reach_of, row, sitter, touched, turns, unowned, Want, DiskWord}
use Rattle.romp_cpu.specs.declared.cpu.Attempt.{Attempt}
use Rattle.romp_cpu.specs.declared.cpu.Cpu.{Cpu}
use Rattle.romp_cpu.specs.Tried.{at}
use Rattle.activations.specs.Activity.{Activity, live_in, program_in, desk_over}
use Rattle.activations.specs.Follows.{KeepsDesk, IsActivitySound}
use Rattle.activations.specs.Steps.{executed, counted, HasExecuted}
use Rattle.storage_unit.specs.declared.unit.Unit.{Unit}
use Rattle.activations.specs.declared.live.Live.{Live}

-- the unit is what a seat reaches
pub record IsSeatSelected (a : Activity) (seat : ℕ) : Type 0 where
  pub runner : a.reach.runner ≡ seat + 1
  pub registers : a.reach.registers ≡ (live_in a seat).registers

-- what a seat has, over committed bytes
abbrev pub plain_in : Activity → (seat : ℕ) → (committed : List ℕ) → Plain
plain_in a seat committed = plain_over committed (live_in a seat).cpu a.reach (live_in a seat).out

-- the row took effect: only what runs in the seat, and bytes and marks of frames, are others
pub record TookEffect (a : Activity) (seat : ℕ) (after : Activity) : Type 0 where
  pub shape : after ≡ executed a seat (live_in after seat) after.reach.pool.bytes after.reach.pool.marked
  pub went : (committed : List ℕ) → length committed ≡ byte_count a.reach.directory → IsClean a.reach.directory a.reach.pool committed
      → HasExecuted a seat (live_in after seat) after.reach.pool.bytes after.reach.pool.marked committed

-- nothing changed, and the row comes to this
abbrev pub CameTo : Outcome → Activity → (seat : ℕ) → (after : Activity) → Type 0
CameTo outcome a seat after =
    (after ≡ a) × ((committed : List ℕ) → length committed ≡ byte_count a.reach.directory → row (program_in a seat) a.reach.directory (plain_in a seat committed) ≡ outcome)

-- the next row goes on, but a line of its access isn't open
pub record IsLineShut (a : Activity) (seat : ℕ) (access : Access) : Type 0 where
  pub some : 0 < access.bytes
  pub few : access.bytes ≤ 64
  pub shut : (committed : List ℕ) → length committed ≡ byte_count a.reach.directory → IsShutOut (program_in a seat) a.reach (plain_in a seat committed) access

-- the next row goes on, whatever is committed, and touches these lines
pub record WillTouch (a : Activity) (seat : ℕ) (wants : List Want) : Type 0 where
  pub goes : (committed : List ℕ) → length committed ≡ byte_count a.reach.directory → (next : Plain) × (row (program_in a seat) a.reach.directory (plain_in a seat committed) ≡ On next)
  pub touches : (committed : List ℕ) → length committed ≡ byte_count a.reach.directory → touched (program_in a seat) a.reach.directory (plain_in a seat committed) ≡ lines_wanted wants

-- the next row is the commit call or a check
abbrev pub IsAtStop : Activity → (seat : ℕ) → Type 0
IsAtStop a seat =
    (committed : List ℕ) → length committed ≡ byte_count a.reach.directory
    → (row (program_in a seat) a.reach.directory (plain_in a seat committed) ≡ Commit)
    ⊎ ((code : ℕ) × (row (program_in a seat) a.reach.directory (plain_in a seat committed) ≡ Check code))

-- what an attempt came to
abbrev pub WasAttempted : Attempt → Activity → (seat : ℕ) → (after : Activity) → Type 0
WasAttempted Attempt.Went a seat after = TookEffect a seat after
WasAttempted (Attempt.Print byte) a seat after = TookEffect a seat after
WasAttempted Attempt.Commit a seat after = CameTo Commit a seat after
WasAttempted (Attempt.Check code) a seat after = CameTo (Check code) a seat after
WasAttempted (Attempt.Fault fault access) a seat after =
    (after ≡ a) × IsLineShut a seat access

-- what is printed after an attempt
abbrev pub printed_after : Attempt → List ℕ → List ℕ
printed_after (Attempt.Print byte) out = out ++ byte ∷ []
printed_after _ out = out

-- the seat's processor and the unit after an attempt
abbrev pub attempted : Activity → (seat : ℕ) → Attempt → Cpu → Reach → Activity
attempted a seat attempt cpu new =
    record a { live = slice_set a.live seat (record (live_in a seat) { cpu = cpu; out = printed_after attempt (live_in a seat).out }); reach = new }

-- So many rows of who sits in a seat took effect one after another, and aren't counted. Where the desk is followed with as many
-- counted as went before, it is followed with them too, and a turn that has come so far comes so much farther.
pub record Strode (a : Activity) (seat rows : ℕ) (after : Activity) : Type 0 where
  pub seating : after.seating ≡ a.seating
  pub follows : (committed : List ℕ) (before : ℕ) → KeepsDesk (counted a seat before) committed → KeepsDesk (counted after seat (before + rows)) committed
  pub turns : (word : DiskWord) (committed : List ℕ) (order : List (ℕ × ℕ)) (before left : ℕ) (counts : Counts) → KeepsDesk (counted a seat before) committed
      → turns word (number_in a.seating seat) (rows + left) (Going (desk_over (counted a seat before) committed order) counts)
      ≡ turns word (number_in a.seating seat) left (Going (desk_over (counted after seat (before + rows)) committed order) (record counts { ran = counts.ran + rows }))

-- in each seat at most so many rows were done
abbrev pub AreRowsWithin : Activity → (rows : ℕ) → Type 0
AreRowsWithin a rows = (seat : ℕ) → seat < 16 → (sitter a.seating seat).rows ≤ rows

-- what only an opening or a begin sets is as before, nobody has sat down, and at most so many rows more were done in a seat
pub record KeepsParts (old new : Activity) (more : ℕ) : Type 0 where
  pub programs : new.programs ≡ old.programs
  pub most_lines : new.most_lines ≡ old.most_lines
  pub next : new.next ≡ old.next
  pub directory : new.reach.directory ≡ old.reach.directory
  pub fewer : length new.seating.taken ≤ length old.seating.taken
  pub rows : (rows : ℕ) → AreRowsWithin old rows → AreRowsWithin new (rows + more)

-- who sits in a seat sits there still, as he was, and is selected still where he was
pub record StaysSeated (old new : Activity) (seat : ℕ) : Type 0 where
  pub taken : has new.seating.taken seat ≡ true
  pub number : number_in new.seating seat ≡ number_in old.seating seat
  pub selected : IsSeatSelected old seat → IsSeatSelected new seat

-- and he stands where he stood: the same runs there, with the same private bytes, and each entry that was his is as it was
pub record StandsStill (old new : Activity) (seat : ℕ) : Type 0 where
  pub seated : StaysSeated old new seat
  pub program : program_in new seat ≡ program_in old seat
  pub live : live_in new seat ≡ live_in old seat
  pub private : private_bytes new.reach.pool seat ≡ private_bytes old.reach.pool seat
  pub own : (page : ℕ) → (slice_index_or old.reach.entries page unowned).tid ≡ seat + 1
      → slice_index_or new.reach.entries page unowned ≡ slice_index_or old.reach.entries page unowned

-- this runs in a seat that is selected, and reaches this
pub record RunsAt (a : Activity) (seat : ℕ) (reach : Reach) (live : Live) : Type 0 where
  pub sound : IsActivitySound a
  pub taken : has a.seating.taken seat ≡ true
  pub selected : IsSeatSelected a seat
  pub reached : a.reach ≡ reach
  pub runs : live_in a seat ≡ live

-- this runs in the seat, and reaches this
abbrev pub with_live : Activity → (seat : ℕ) → Live → Reach → Activity
with_live a seat live reach = record a { live = slice_set a.live seat live; reach = reach }

-- this runs somewhere, and reaches this
abbrev pub RunsSomewhere : Reach → Live → Type 0
RunsSomewhere reach live = (a : Activity) × (seat : ℕ) × RunsAt a seat reach live

-- an attempt of what runs in a seat came to this, whoever else sits, and all is sound then
pub record HasTried (attempt : Attempt) (reach : Reach) (live : Live) (new_reach : Reach) (new : Live) : Type 0 where
  pub sound : (a : Activity) (seat : ℕ) → RunsAt a seat reach live → IsActivitySound (with_live a seat new new_reach)
  pub went : (a : Activity) (seat : ℕ) → RunsAt a seat reach live → WasAttempted attempt a seat (with_live a seat new new_reach)

-- so many rows came to this
pub record StrodeTo (a : Activity) (seat rows : ℕ) (live : Live) (reach : Reach) : Type 0 where
  pub runs : RunsAt (with_live a seat live reach) seat reach live
  pub strode : Strode a seat rows (with_live a seat live reach)
  pub parts : KeepsParts a (with_live a seat live reach) 0

-- what runs in a seat, with this address of its next instruction
abbrev pub standing : Live → (iar : ℕ) → Live
standing live iar = record live { cpu = at live.cpu iar }

-- so many rows at most of what runs in a seat, whoever else sits: how many, and the access of the next one where it isn't permitted
pub record HasStrode (result : ℕ × Option Access) (limit : ℕ) (reach : Reach) (live : Live) (new_reach : Reach) (new : Live) : Type 0 where
  pub few : result.0 ≤ limit
  pub strode : (a : Activity) (seat : ℕ) → RunsAt a seat reach live → StrodeTo a seat result.0 new new_reach
  pub stopped : result.1 ≡ None → result.0 < limit → (a : Activity) (seat : ℕ) → RunsAt a seat reach live → IsAtStop (with_live a seat new new_reach) seat
  pub shut : (access : Access) → result.1 ≡ Some access → (a : Activity) (seat : ℕ) → RunsAt a seat reach live → IsLineShut (with_live a seat new new_reach) seat access

-- the same of what runs in a seat from an address that is kept beside it: an attempt came to this
abbrev pub TriesFrom : Attempt → (unit : Unit) → Live → (iar : ℕ) → (new : Unit) → Live → (iar : ℕ) → Type 0
TriesFrom attempt unit live iar new later left = HasTried attempt (reach_of unit) (standing live iar) (reach_of new) (standing later left)

-- and so many rows at most
abbrev pub StridesFrom : (result : ℕ × Option Access) → (limit : ℕ) → (unit : Unit) → Live → (iar : ℕ) → (new : Unit) → Live → (iar : ℕ) → Type 0
StridesFrom result limit unit live iar new later left = HasStrode result limit (reach_of unit) (standing live iar) (reach_of new) (standing later left)
