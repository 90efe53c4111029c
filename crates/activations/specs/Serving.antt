-- An instruction that is served, from where it began, step by step.
use Rattle.std.specs.Prelude.{[], ◌≡◌, ℕ, ◌+◌, ◌==◌, ◌&&◌, not, if◌then◌else◌, Bool, length, Some, List, ◌∷◌, filter, map, slice_index_or, slice_set, ◌≢◌, nat_lt, true, false, ◌++◌, All}
use Rattle.activations.specs.Below.{AreAlike, AreOfPage, InFlight, Authority, Broken, conflicts_of, contest_ends, Counts, Desk, difference, Disk, Ending, Fetched, fetches, Fine, fine_grant_by, gets, Going, Grant, grant_by, grant_of, has, held_at, holders, instruction, is_fine_page, is_whole_page, Journal, PoolKeeps, lines_wanted, lines_within, locks_with, lowered, nobody, of_page, On, Over, over_all, owners_told, Plain, Pool, Reads, refuses, Request, rolled_back, row, sitter, size, took, touched, touched_pages, Turning, waiting_for, Want, with_grants, DiskWord, write_count}
use Rattle.activations.specs.Touched.{with_whole_page, stores_into, pages_picked, pages_wanted, IsWantApart, pages_refused, wants_of}
use Rattle.desk_law.specs.UnderWay.{KeepsPages, contest, IsUnderWay, MayGoOn, marked_waiting, served_attempt}
use Rattle.activations.specs.Activity.{Activity, entry_in, desk_over, program_in, number_under, authority_under, lines_held, locks_in, state_in, shown}
use Rattle.activations.specs.Follows.{IsBeside, KeepsDesk, AreHeldOfPages, IsActivitySound}
use Rattle.activations.specs.declared.live.Live.{Live}
use Rattle.activations.specs.declared.touched_lines.TouchedLines.{TouchedLines}
use Rattle.activations.specs.Kept.{plain_in}
use Rattle.activations.specs.Steps.{counted, executed, with_other_pool, rolled, IsPoolMoved, RollsBack, HasExecuted}

-- These are the pages of an attempt whose authority refused it once, and of those that it owned then the authority is as it was.
pub record WereRefused (attempt : InFlight) (refused : List ℕ) (now : Desk) : Type 0 where
  pub once : List Grant
  pub are : filter (λ page. refuses (slice_index_or once page nobody) attempt.entry.number (lines_within page attempt.lines)) (touched_pages attempt) ≡ refused
  pub keeps : KeepsPages attempt.entry.number once now.authority

-- An instruction is contested: wherever it began, the contest goes on from here.
pub record IsContested (begins : DiskWord → Turning) (attempt : InFlight) (refused : List ℕ) (first : Desk) (a : Activity) (committed : List ℕ) (order : List (ℕ × ℕ)) (counts : Counts) : Type 0 where
  pub comes : (word : DiskWord) → Reads word counts.pages → begins word ≡ contest_ends word attempt refused (contest attempt.entry.number (desk_over a committed order) counts)
  pub ready : MayGoOn attempt first
  pub under_way : IsUnderWay first (desk_over a committed order) (marked_waiting attempt)
  pub were : WereRefused attempt refused first
  pub kept : IsBeside a committed

-- it came to its end: this desk, these counts and this ending
pub record ComesToEnd (begins : DiskWord → Turning) (a : Activity) (committed : List ℕ) (order : List (ℕ × ℕ)) (counts : Counts) (ending : Ending) : Type 0 where
  pub comes : (word : DiskWord) → Reads word counts.pages → begins word ≡ Over (desk_over a committed order) counts ending
  pub follows : KeepsDesk a committed

-- nobody holds any more what it asks for: it gets its pages
pub record IsFree (begins : DiskWord → Turning) (attempt : InFlight) (refused : List ℕ) (a : Activity) (committed : List ℕ) (order : List (ℕ × ℕ)) (counts : Counts) : Type 0 where
  pub comes : (word : DiskWord) → Reads word counts.pages → begins word ≡ gets word attempt refused (desk_over a committed order) counts
  pub free : conflicts_of (desk_over a committed order) attempt.entry ≡ []
  pub ready : MayGoOn attempt (desk_over a committed order)
  pub were : WereRefused attempt refused (desk_over a committed order)
  pub follows : KeepsDesk a committed

-- the next instruction of who sits in a seat, with what the turn has counted
abbrev pub instruction_in : Activity → (seat : ℕ) → (committed : List ℕ) → (order : List (ℕ × ℕ)) → Counts → DiskWord → Turning
instruction_in a seat committed order counts word = instruction word (Some (entry_in a seat)) (desk_over a committed order) counts

-- Pages get entries one after another, each with the authority that is told of it.
abbrev pub AreSet : (of : ℕ → Grant) → (pages : List ℕ) → (old new : List Authority) → Type 0
AreSet of [] old new = new ≡ old
AreSet of (page ∷ pages) old new = (one : Authority) × (grant_of one ≡ of page) × AreSet of pages (slice_set old page one) new

-- the authority that a page gets by what a seat holds in it, where its row stores into it or doesn't
abbrev pub authority_given : Activity → (seat : ℕ) → (storing : Bool) → (page : ℕ) → Grant
authority_given a seat storing page =
    if is_fine_page a.reach.directory page
    then fine_grant_by (seat + 1) storing (held_at a.seating.holding seat page).0 (held_at a.seating.holding seat page).1
    else grant_by (seat + 1) (held_at a.seating.holding seat page).0 (held_at a.seating.holding seat page).1

-- Pages are granted one after another to a seat, whose row wants these lines.
abbrev pub AreGranted : Activity → (seat : ℕ) → (wants : List Want) → (pages : List ℕ) → (old new : List Authority) → Type 0
AreGranted a seat wants pages old new = AreSet (λ page. authority_given a seat (stores_into wants page) page) pages old new

-- the authority of a page with its write bit off
abbrev pub authority_to_read : Activity → (seat page : ℕ) → Grant
authority_to_read a seat page = grant_by (seat + 1) (held_at a.seating.holding seat page).0 []

-- whether the write bit of a page that a row stored into goes off: it is fine, and a seat holds not all its lines to read
abbrev pub is_lowered : Activity → (seat page : ℕ) → Bool
is_lowered a seat page = is_fine_page a.reach.directory page && not (is_whole_page (held_at a.seating.holding seat page).0)

-- the pages of these wants whose write bits go off
abbrev pub pages_lowered : Activity → (seat : ℕ) → List Want → List ℕ
pages_lowered a seat wants = pages_wanted (filter (λ want. not (length want.writes == 0) && is_lowered a seat want.page) wants)

-- The write bits of pages go off one after another, as a row of who sits in a seat took effect.
abbrev pub AreLowered : Activity → (seat : ℕ) → (pages : List ℕ) → (old new : List Authority) → Type 0
AreLowered a seat pages old new = AreSet (authority_to_read a seat) pages old new

-- pages are granted to a seat whose row has these wants, and the fine ones that it stored into are lowered
abbrev pub Grants : (seat : ℕ) → List Want → (pages : List ℕ) → (old new : Activity) → Type 0
Grants seat wants pages old new = AreGranted old seat wants pages old.reach.entries new.reach.entries

abbrev pub Lowers : (seat : ℕ) → List Want → (old new : Activity) → Type 0
Lowers seat wants old new = AreLowered old seat (pages_lowered old seat wants) old.reach.entries new.reach.entries

-- the pages of a touch that are picked are granted, by what is held in a seat here
abbrev pub GrantsPicked : Activity → (seat : ℕ) → TouchedLines → (picked : Bool × Bool) → (old new : Activity) → Type 0
GrantsPicked a seat touch picked old new = AreGranted a seat (wants_of touch) (pages_picked touch picked) old.reach.entries new.reach.entries

-- the entries of the pages are others
abbrev pub with_entries : Activity → (entries : List Authority) → Activity
with_entries a entries = record a { reach = record a.reach { entries = entries } }

-- a seat holds what it asked for, and its refused pages are granted
abbrev pub locked : Activity → (seat : ℕ) → List Want → (entries : List Authority) → Activity
locked a seat wants entries = record a { seating = took a.seating seat (map (with_whole_page a.reach.directory) wants); reach = record a.reach { entries = entries } }

-- a row that was served takes effect
pub record Goes (begins : DiskWord → Turning) (a : Activity) (committed : List ℕ) (order : List (ℕ × ℕ)) (counts : Counts) : Type 0 where
  pub comes : (word : DiskWord) → Reads word counts.pages → begins word ≡ Going (desk_over a committed order) counts
  pub follows : KeepsDesk a committed

-- who sits in a seat waits for what he asked for
abbrev pub asking : Activity → (seat : ℕ) → Request → Activity
asking a seat request = record a { seating = waiting_for a.seating seat request }

-- The next row of who sits in a seat goes on and touches these lines; its access is to be served.
pub record IsToServe (a : Activity) (seat : ℕ) (committed : List ℕ) (wants : List Want) (next : Plain) : Type 0 where
  pub sound : IsActivitySound a
  pub taken : has a.seating.taken seat ≡ true
  pub runner : a.reach.runner ≡ seat + 1
  pub follows : KeepsDesk a committed
  pub goes : row (program_in a seat) a.reach.directory (plain_in a seat committed) ≡ On next
  pub touches : touched (program_in a seat) a.reach.directory (plain_in a seat committed) ≡ lines_wanted wants

-- the instruction under way in a seat, over the bytes that all see
abbrev pub attempt_in : (a : Activity) (seat : ℕ) (committed : List ℕ) (order : List (ℕ × ℕ)) (wants : List Want) (next : Plain) → IsToServe a seat committed wants next → InFlight
attempt_in a seat committed order wants next to =
    served_attempt (desk_over a committed order) (entry_in a seat) (over_all (state_in a seat) (to.follows.kept.stand seat to.taken).bytes) (shown a committed)

-- how many lines it will have written
abbrev pub lines_with : Activity → (seat : ℕ) → List Want → ℕ
lines_with a seat wants = size ((locks_in a seat).writes ++ (lines_wanted wants).writes)

-- Pages came in from here, and of what all see nothing changed: the pool is this one, and so many pages are counted.
pub record IsFetched (a : Activity) (committed : List ℕ) (order : List (ℕ × ℕ)) (pages : List ℕ) (before : ℕ) (pool : Pool) (after : ℕ) : Type 0 where
  pub moved : IsPoolMoved a.reach.pool pool
  pub keeps : PoolKeeps a.reach.directory a.reach.pool pool committed
  pub fetched : fetches Fine (desk_over a committed order).frames pages pages (desk_over a committed order).resident before ≡ Fetched pool.resident after

-- what is wanted of each page is of it, and the pages are those that are touched
pub record AreTouched (attempt : InFlight) (wants : List Want) : Type 0 where
  pub pages : touched_pages attempt ≡ pages_wanted wants
  pub apart : All (IsWantApart wants) wants
  pub sets : AreOfPage wants

-- the pages came in and the refused ones are counted
abbrev pub counted_with : Counts → (pages : ℕ) → (refused : List ℕ) → Counts
counted_with counts pages refused = record counts { pages = pages; locks = counts.locks + length refused }

-- Too many lines: it is rolled back, and the turn ends. A page that can't be read: it is rolled back, and nothing is resident.
-- Where nobody holds what is asked for, it is free, and else its contest begins, with what it asks for.
pub record Starts (a : Activity) (seat : ℕ) (committed : List ℕ) (order : List (ℕ × ℕ)) (counts : Counts) (wants : List Want) (next : Plain) (to : IsToServe a seat committed wants next) : Type 0 where
  pub journal : (pool : Pool) → RollsBack a seat pool committed → nat_lt a.most_lines (lines_with a seat wants) ≡ true
      → ComesToEnd (instruction_in a seat committed order counts) (rolled a seat pool) committed order counts (Journal (lines_with a seat wants) a.most_lines)
  pub breaks : nat_lt a.most_lines (lines_with a seat wants) ≡ false → (word : DiskWord) (pages : ℕ)
      → fetches word (desk_over a committed order).frames (touched_pages (attempt_in a seat committed order wants next to)) (touched_pages (attempt_in a seat committed order wants next to)) (desk_over a committed order).resident counts.pages ≡ Broken pages
      → instruction_in a seat committed order counts word ≡ Over (record (rolled_back (desk_over a committed order) (entry_in a seat)) { resident = [] }) (record counts { pages = pages }) Disk
  pub free : nat_lt a.most_lines (lines_with a seat wants) ≡ false → (pool : Pool) (pages : ℕ) → IsFetched a committed order (touched_pages (attempt_in a seat committed order wants next to)) counts.pages pool pages
      → AreTouched (attempt_in a seat committed order wants next to) wants → holders a.seating seat (map (with_whole_page a.reach.directory) wants) ≡ []
      → IsFree (instruction_in a seat committed order counts) (attempt_in a seat committed order wants next to) (pages_refused a.reach.entries (seat + 1) wants) (with_other_pool a pool) committed order
      (counted_with counts pages (pages_refused a.reach.entries (seat + 1) wants))
  pub contested : nat_lt a.most_lines (lines_with a seat wants) ≡ false → (pool : Pool) (pages : ℕ) → IsFetched a committed order (touched_pages (attempt_in a seat committed order wants next to)) counts.pages pool pages
      → AreTouched (attempt_in a seat committed order wants next to) wants → (request : Request) → request.wants.items ≡ map (with_whole_page a.reach.directory) wants → (holder : ℕ) (others : List ℕ)
      → holders a.seating seat (map (with_whole_page a.reach.directory) wants) ≡ holder ∷ others
      → IsContested (instruction_in a seat committed order counts) (attempt_in a seat committed order wants next to) (pages_refused a.reach.entries (seat + 1) wants) (desk_over (with_other_pool a pool) committed order)
      (asking (with_other_pool a pool) seat request) committed order (counted_with counts pages (pages_refused a.reach.entries (seat + 1) wants))

-- the law of it
abbrev pub ServingStarts : Type 0
ServingStarts =
    (a : Activity) (seat : ℕ) (committed : List ℕ) (order : List (ℕ × ℕ)) (counts : Counts) (wants : List Want) (next : Plain) (to : IsToServe a seat committed wants next)
    → Starts a seat committed order counts wants next to

-- What is free takes its lines, is granted its refused pages, brings in its pages once more, and goes on, and the write bits of fine pages go off
-- that it wrote into: that is the desk's instruction, wherever it began.
abbrev pub ServedGoesOn : Type 0
ServedGoesOn =
    (begins : DiskWord → Turning) (attempt : InFlight) (refused : List ℕ) (a : Activity) (seat : ℕ) (committed : List ℕ) (order : List (ℕ × ℕ)) (counts : Counts)
    (wants : List Want) (owned eased : List Authority) (pool : Pool) (live : Live) (bytes : List ℕ) (marked_waiting : List (List ℕ)) (pages : ℕ) (next : Plain)
    → IsActivitySound a → has a.seating.taken seat ≡ true → a.reach.runner ≡ seat + 1 → attempt.entry.number ≡ (sitter a.seating seat).number
    → IsFree begins attempt refused a committed order counts → attempt.outcome ≡ On next → IsFetched a committed order (touched_pages attempt) counts.pages pool pages
    → AreAlike (locks_in (locked a seat wants owned) seat) (locks_with attempt (desk_over a committed order))
    → owners_told (number_under a) (authority_under eased)
    ≡ lowered (is_fine_page a.reach.directory) attempt (locks_with attempt (desk_over a committed order)) (with_grants attempt refused (desk_over a committed order)).authority
    → HasExecuted (with_other_pool (locked a seat wants owned) pool) seat live bytes marked_waiting committed
    → Goes begins (counted (with_entries (executed (with_other_pool (locked a seat wants owned) pool) seat live bytes marked_waiting) eased) seat 1) committed order (record counts { pages = pages; ran = counts.ran + 1 })

-- With the lines of no want, of one, and of two of different pages, as many lines are written as are counted page by page.
pub record AreCounted (pages : List (List ℕ × List ℕ)) : Type 0 where
  pub none : size ((lines_held pages).writes ++ (lines_wanted []).writes) ≡ write_count pages
  pub one : (want : Want) → AreOfPage (want ∷ []) → size ((lines_held pages).writes ++ (lines_wanted (want ∷ [])).writes) ≡ write_count pages + length (difference want.writes (of_page pages want.page).1)
  pub two : (first second : Want) → AreOfPage (first ∷ second ∷ []) → first.page ≢ second.page
      → size ((lines_held pages).writes ++ (lines_wanted (first ∷ second ∷ [])).writes)
      ≡ write_count pages + (length (difference first.writes (of_page pages first.page).1) + length (difference second.writes (of_page pages second.page).1))

-- so the lines that a row would have written are counted from what is held of its pages
abbrev pub LinesAreCounted : Type 0
LinesAreCounted = (pages : List (List ℕ × List ℕ)) → AreHeldOfPages pages → AreCounted pages
