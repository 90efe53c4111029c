-- What a row of one does to all, and what endings leave: one rolled back or committed, and everybody rolled back.
use Rattle.std.specs.Prelude.{◌≡◌, ℕ, ◌+◌, ◌<◌, ◌%◌, ◌&&◌, not, if◌then◌else◌, Bool, List, slice_index, slice_set, true, false, Some, [], length}
use Rattle.activations.specs.Below.{after, AreConsistent, byte_count, bytes_over, Commit, Counts, due_to, seat_ended, GoesOpen, Going, has, held_at, Holding, instruction, is_line_marked, IsClean, AreLinesLaid, PoolKeeps, Layout, LeavesSeats, seat_left, line_of, over_all, page_of_line, Plain, plain_over, Pool, private_bytes, Reach, entries_released, restarted, rolled_back, row, taken_out, went_on, DiskWord}
use Rattle.desk_law.specs.Changes.{committed_at}
use Rattle.activations.specs.declared.live.Live.{Live}
use Rattle.activations.specs.Activity.{Activity, live_in, program_in, entry_in, entries, store_over, desk_over, shown}
use Rattle.activations.specs.Follows.{IsBeside, KeepsDesk}

-- who sits in a seat has done so many rows more, and waits for nothing
abbrev pub counted : Activity → (seat rows : ℕ) → Activity
counted a seat rows = record a { seating = went_on a.seating seat rows }

-- what runs in a seat, and bytes and marks of the frames, are others
abbrev pub executed : Activity → (seat : ℕ) → Live → (bytes : List ℕ) → (marked : List (List ℕ)) → Activity
executed a seat live bytes marked =
    record a { live = slice_set a.live seat live; reach = record a.reach { pool = record a.reach.pool { bytes = bytes; marked = marked } } }

-- an attempt in a seat took effect as the row of its program on the bytes that all see
pub record HasExecuted (a : Activity) (seat : ℕ) (live : Live) (bytes : List ℕ) (marked : List (List ℕ)) (committed : List ℕ) : Type 0 where
  pub goes : GoesOpen (program_in a seat) a.reach (executed a seat live bytes marked).reach
      (plain_over committed (live_in a seat).cpu a.reach (live_in a seat).out)
      (plain_over committed live.cpu (executed a seat live bytes marked).reach live.out) live.cpu
  pub clean : IsClean a.reach.directory (executed a seat live bytes marked).reach.pool committed
  pub seats : LeavesSeats a.reach (executed a seat live bytes marked).reach

-- who sat in a seat has left it: its private storage is begun no more, and its pages are nobody's
abbrev pub vacated : Activity → (seat : ℕ) → Activity
vacated a seat = record a { seating = seat_left a.seating seat; reach = seat_ended (entries_released a.reach (seat + 1)) seat }

-- the same, once the pages that he wrote into went out of the pool
abbrev pub rolled : Activity → (seat : ℕ) → Pool → Activity
rolled a seat pool = vacated (record a { reach = record a.reach { pool = pool } }) seat

-- the lines that who sits in a seat holds of a page to write
abbrev pub wrote : Activity → (seat page : ℕ) → List ℕ
wrote a seat page = (held_at a.seating.holding seat page).1

-- a line is one of these of its page, and its page one of these
abbrev pub is_of : (pages : List ℕ) → (lines : ℕ → List ℕ) → (line : ℕ) → Bool
is_of pages lines line = has pages (page_of_line line) && has (lines (page_of_line line)) (line % 16)

-- Pages of a pool have gone out and these of their lines are forgotten, whatever is committed.
pub record WereUndone (lines : ℕ → List ℕ) (pages : List ℕ) (old new : Pool) : Type 0 where
  pub marks : (line : ℕ) → is_line_marked new line ≡ (is_line_marked old line && not (is_of pages lines line))
  pub resident : new.resident ≡ taken_out pages old.resident
  pub bytes : new.bytes ≡ old.bytes
  pub size : new.page ≡ old.page
  pub frames : new.frames ≡ old.frames

-- over committed bytes these lines are as committed then, and the others as they were
pub record AreAsCommitted (directory : Layout) (lines : ℕ → List ℕ) (pages : List ℕ) (old new : Pool) (committed : List ℕ) : Type 0 where
  pub bytes : (place : ℕ) → place < byte_count directory
      → slice_index (bytes_over directory new committed) place
      ≡ (if is_of pages lines (line_of directory place) then slice_index committed place else slice_index (bytes_over directory old committed) place)
  pub clean : IsClean directory new committed

-- these are the pages into which who sits in a seat wrote: those of which he holds a line to write
pub record AreWritten (holding : Holding) (seat : ℕ) (pages : List ℕ) : Type 0 where
  pub all : (page line : ℕ) → has (held_at holding seat page).1 line ≡ true → has pages page ≡ true
  pub only : (page : ℕ) → has pages page ≡ true → (line : ℕ) × (has (held_at holding seat page).1 line ≡ true)

-- what is left of a rollback is kept beside the desk after it
pub record RollsBack (a : Activity) (seat : ℕ) (pool : Pool) (committed : List ℕ) : Type 0 where
  pub desk : (order : List (ℕ × ℕ)) → desk_over (rolled a seat pool) committed order ≡ rolled_back (desk_over a committed order) (entry_in a seat)
  pub kept : IsBeside (rolled a seat pool) committed
  pub laid : AreLinesLaid (store_over a committed) (due_to (store_over a committed) (entry_in a seat)).writes committed (shown a committed) (shown (rolled a seat pool) committed)

-- that, over whatever is committed that is kept beside consistent entries
abbrev pub IsRolledBack : Activity → (seat : ℕ) → Pool → Type 0
IsRolledBack a seat pool = (committed : List ℕ) → AreConsistent (store_over a committed) a.most_lines a.next (entries a) → IsBeside a committed → RollsBack a seat pool committed

-- Lines of these pages of a pool are marked no more, and all else stays.
pub record WereSettled (lines : ℕ → List ℕ) (pages : List ℕ) (old new : Pool) : Type 0 where
  pub marks : (line : ℕ) → is_line_marked new line ≡ (is_line_marked old line && not (is_of pages lines line))
  pub rest : new ≡ record old { marked = new.marked }

-- who sits in a seat has committed at a state: what is left follows the desk after it, over what he left
pub record HasCommittedAt (a : Activity) (seat : ℕ) (pool : Pool) (committed : List ℕ) (now : Plain) : Type 0 where
  pub desk : (order : List (ℕ × ℕ)) → desk_over (rolled a seat pool) now.store order ≡ committed_at (desk_over a committed order) (entry_in a seat) now
  pub follows : KeepsDesk (rolled a seat pool) now.store

-- that, wherever he is at his commit call
abbrev pub CommitsWherever : Activity → (seat : ℕ) → Pool → Type 0
CommitsWherever a seat pool =
    (committed : List ℕ) (now : Plain) → KeepsDesk a committed → after (program_in a seat) (entry_in a seat).runs.args (store_over a committed) (entry_in a seat).rows ≡ Some now
    → row (program_in a seat) a.reach.directory (over_all now (shown a committed)) ≡ Commit → HasCommittedAt a seat pool committed now

-- frames have other bytes and pages: what was marked and private stays, whatever is committed
pub record IsPoolMoved (old new : Pool) : Type 0 where
  pub marked : new.marked ≡ old.marked
  pub private : (seat : ℕ) → seat < 16 → private_bytes new seat ≡ private_bytes old seat
  pub size : new.page ≡ old.page
  pub frames : new.frames ≡ old.frames

-- the pool is another
abbrev pub with_other_pool : Activity → Pool → Activity
with_other_pool a pool = record a { reach = record a.reach { pool = pool } }

-- a row of who sits in a seat is an instruction of the desk, and what is left follows the desk after it
pub record RowGoesOn (a : Activity) (seat : ℕ) (live : Live) (bytes : List ℕ) (marked : List (List ℕ)) (committed : List ℕ) : Type 0 where
  pub is_instruction : (word : DiskWord) (order : List (ℕ × ℕ)) (counts : Counts)
      → instruction word (Some (entry_in a seat)) (desk_over a committed order) counts
      ≡ Going (desk_over (counted (executed a seat live bytes marked) seat 1) committed order) (record counts { ran = counts.ran + 1 })
  pub follows : KeepsDesk (counted (executed a seat live bytes marked) seat 1) committed

-- the same over so many rows that took effect and aren't counted yet
pub record Strides (a : Activity) (seat rows : ℕ) (live : Live) (bytes : List ℕ) (marked : List (List ℕ)) (committed : List ℕ) : Type 0 where
  pub is_instruction : (word : DiskWord) (order : List (ℕ × ℕ)) (counts : Counts)
      → instruction word (Some (entry_in (counted a seat rows) seat)) (desk_over (counted a seat rows) committed order) counts
      ≡ Going (desk_over (counted (executed a seat live bytes marked) seat (rows + 1)) committed order) (record counts { ran = counts.ran + 1 })
  pub follows : KeepsDesk (counted (executed a seat live bytes marked) seat (rows + 1)) committed

-- some were rolled back: what is left follows the desk, of which a crash leaves what it left before
pub record WereRolled (old new : Activity) (committed : List ℕ) : Type 0 where
  pub restarts : (order : List (ℕ × ℕ)) → restarted (desk_over new committed order) ≡ restarted (desk_over old committed order)
  pub follows : KeepsDesk new committed

-- it is the desk that a crash leaves
pub record IsRestarted (old new : Activity) (committed : List ℕ) : Type 0 where
  pub desk : (order : List (ℕ × ℕ)) → desk_over new committed order ≡ restarted (desk_over old committed order)
  pub follows : KeepsDesk new committed

-- nobody sits anywhere, what was told of each seat is still there, and any of the same programs may begin, with the same next
-- number, over the same store
pub record IsDeserted (old new : Activity) : Type 0 where
  pub taken : new.seating.taken ≡ []
  pub sitters : new.seating.sitters ≡ old.seating.sitters
  pub programs : new.programs ≡ old.programs
  pub most_lines : new.most_lines ≡ old.most_lines
  pub next : new.next ≡ old.next
  pub directory : new.reach.directory ≡ old.reach.directory

-- Pages of the store have gone out: those in which a seat holds lines to write, and those lines are forgotten, whatever is
-- committed.
pub record HasUndone (holding : Holding) (seat : ℕ) (old new : Reach) : Type 0 where
  pub pages : List ℕ
  pub written : AreWritten holding seat pages
  pub rest : new ≡ record old { pool = new.pool }
  pub were : WereUndone (λ page. (held_at holding seat page).1) pages old.pool new.pool
  pub are : (committed : List ℕ) → length committed ≡ byte_count old.directory → IsClean old.directory old.pool committed
      → AreAsCommitted old.directory (λ page. (held_at holding seat page).1) pages old.pool new.pool committed

-- the lines that a seat holds to write are marked no more; where they are as committed then, nothing is seen of it
pub record HasSettled (holding : Holding) (seat : ℕ) (old new : Reach) : Type 0 where
  pub pages : List ℕ
  pub written : AreWritten holding seat pages
  pub rest : new ≡ record old { pool = new.pool }
  pub were : WereSettled (λ page. (held_at holding seat page).1) pages old.pool new.pool
  pub keeps : (committed : List ℕ) → IsClean old.directory old.pool committed
      → ((place : ℕ) → place < byte_count old.directory → has (held_at holding seat (page_of_line (line_of old.directory place))).1 (line_of old.directory place % 16) ≡ true
      → slice_index (bytes_over old.directory old.pool committed) place ≡ slice_index committed place)
      → PoolKeeps old.directory old.pool new.pool committed

-- the one or the other, as what was written is committed or not
pub record EndsWritten (committed : Bool) (holding : Holding) (seat : ℕ) (old new : Reach) : Type 0 where
  pub rest : new ≡ record old { pool = new.pool }
  pub undone : committed ≡ false → HasUndone holding seat old new
  pub settled : committed ≡ true → HasSettled holding seat old new

-- who sits in a seat is undone, and the pool is another then
abbrev pub IsUndone : Activity → (seat : ℕ) → Pool → Type 0
IsUndone a seat pool = HasUndone a.seating.holding seat a.reach (record a.reach { pool = pool })

-- who sat in a seat has left it, rolled back
pub record LeavesRolled (old : Activity) (seat : ℕ) (new : Activity) : Type 0 where
  pub shape : new ≡ rolled old seat new.reach.pool
  pub undone : IsUndone old seat new.reach.pool
  pub rolls : IsRolledBack old seat new.reach.pool

-- who sat in a seat has left it, and what he wrote is committed
pub record LeavesWritten (old : Activity) (seat : ℕ) (new : Activity) : Type 0 where
  pub shape : new ≡ rolled old seat new.reach.pool
  pub commits : CommitsWherever old seat new.reach.pool

-- bytes stand where what was printed in a seat stood
abbrev pub reprinted : Activity → (seat : ℕ) → (out : List ℕ) → Activity
reprinted a seat out = record a { live = slice_set a.live seat (record (live_in a seat) { out = out }) }
