-- What holds of those that run side by side at every moment.
use Rattle.std.specs.Prelude.{[], ◌≡◌, ℕ, ◌+◌, ◌<◌, ◌≤◌, ◌⊎◌, true, false, List, All, length, slice_index_or, Some}
use Rattle.activations.specs.Below.{AreAlike, AreWrittenMarked, AreOfPage, AreResident, AreSeats, Authority, byte_count, due_to, has, is_line_marked, IsClean, IsOfPage, IsSeating, IsState, number_in, of_page, of_seat, page_count, private_segment, Reach, registers_of_program, Request, requested, sitter, unowned}
use Rattle.desk_law.specs.Current.{IsCurrent}
use Rattle.desk_law.specs.Orderly.{IsOrderly}
use Rattle.activations.specs.Activity.{Activity, live_in, program_in, entry_in, entries, store_over, desk_over, locks_in, request_in, state_in, shown}

-- A seat that is taken: its program is one of those that may begin, its private storage is begun, its registers are its
-- program's, and its processor counts what it printed.
pub record IsSetUp (a : Activity) (seat : ℕ) : Type 0 where
  pub program : (sitter a.seating seat).program < length a.programs
  pub begun : slice_index_or a.reach.begun seat false ≡ true
  pub registers : (live_in a seat).registers ≡ registers_of_program (program_in a seat) a.reach.directory (private_segment seat)
  pub printed : length (live_in a seat).out ≡ (live_in a seat).cpu.printed
  pub few : length (live_in a seat).out ≤ 4096

-- the entry of a page is nobody's, or a taken seat's
abbrev pub IsIdentified : List ℕ → Authority → Type 0
IsIdentified taken one = (one ≡ unowned) ⊎ ((seat : ℕ) × (has taken seat ≡ true) × (one.tid ≡ seat + 1))

-- what is held of each page are lines of it
pub record AreHeldOfPages (pages : List (List ℕ × List ℕ)) : Type 0 where
  pub reads : (page : ℕ) → IsOfPage (of_page pages page).0
  pub writes : (page : ℕ) → IsOfPage (of_page pages page).1

-- what holds whatever is committed
pub record IsActivitySound (a : Activity) : Type 0 where
  pub seating : IsSeating a.seating
  pub seats : AreSeats a.seating.taken (entry_in a)
  pub numbers : All (λ seat. number_in a.seating seat < a.next) a.seating.taken
  pub live : length a.live ≡ 16
  pub pages : a.seating.holding.pages ≡ page_count a.reach.directory
  pub lines : (seat : ℕ) → AreHeldOfPages (of_seat a.seating.holding seat)
  pub requests : (seat : ℕ) (request : Request) → has a.seating.taken seat ≡ true → (sitter a.seating seat).waits ≡ Some request → AreOfPage request.wants.items
  pub begun : length a.reach.begun ≡ 16
  pub entries : length a.reach.entries ≡ page_count a.reach.directory
  pub set_up : (seat : ℕ) → has a.seating.taken seat ≡ true → IsSetUp a seat
  pub free : (seat : ℕ) → has a.seating.taken seat ≡ false → slice_index_or a.reach.begun seat false ≡ false
  pub identified : (page : ℕ) → IsIdentified a.seating.taken (slice_index_or a.reach.entries page unowned)

-- there are two frames at least for pages of the store, and in them are pages of it, each once, and no more than there are frames
pub record HasFrames (reach : Reach) : Type 0 where
  pub some : 2 ≤ reach.pool.frames
  pub resident : AreResident reach.pool.frames (page_count reach.directory) reach.pool.resident

-- what holds of all that run, at every moment
pub record AlwaysHolds (a : Activity) : Type 0 where
  pub sound : IsActivitySound a
  pub frames : HasFrames a.reach

-- What is kept beside the desk over committed bytes is what the desk says of it: the locks of each seat are those due to its
-- entry, a waiting one has its request, its state is that after its rows, all see each line as it is now, and the lines that
-- somebody wrote are marked.
pub record IsBeside (a : Activity) (committed : List ℕ) : Type 0 where
  pub long : length committed ≡ byte_count a.reach.directory
  pub held : (seat : ℕ) → has a.seating.taken seat ≡ true → AreAlike (locks_in a seat) (due_to (store_over a committed) (entry_in a seat))
  pub asked : (seat : ℕ) → has a.seating.taken seat ≡ true → (entry_in a seat).waiting ≡ true → AreAlike (request_in a seat) (requested (store_over a committed) (entry_in a seat))
  pub stand : (seat : ℕ) → has a.seating.taken seat ≡ true → IsState (store_over a committed) (entry_in a seat) (state_in a seat)
  pub is_current : IsCurrent (store_over a committed) (entries a) (shown a committed)
  pub marked : AreWrittenMarked (store_over a committed) (entries a) (is_line_marked a.reach.pool)
  pub clean : IsClean a.reach.directory a.reach.pool committed

-- and that desk is consistent
pub record KeepsDesk (a : Activity) (committed : List ℕ) : Type 0 where
  pub orderly : IsOrderly (desk_over a committed [])
  pub kept : IsBeside a committed

-- so it is over whatever is committed beside which what runs follows the desk
abbrev pub OverDesk : Activity → (List ℕ → Type 0) → Type 0
OverDesk a holds = (committed : List ℕ) → KeepsDesk a committed → holds committed
