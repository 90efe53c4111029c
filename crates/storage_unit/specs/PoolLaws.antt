-- What the calls of a unit do to its one list of bytes.
use Rattle.std.specs.Prelude.{◌≡◌, ℕ, ◌+◌, ◌*◌, ◌%◌, ◌<◌, ◌==◌, ◌&&◌, if◌then◌else◌, Bool, true, false, List, length, slice_index, slice_range, Option}
use Rattle.storage_unit.specs.Below.{Brought, byte_count, pool_emptied, has, IsSeen, kept_laid, Layout, line_of, page_bytes, page_count, page_of_line, Pool, settled, page_undone, with_bytes}
use Rattle.storage_unit.specs.Held.{AreOfPages}
use Rattle.storage_unit.specs.Bytes.{bytes_over, is_marked, IsClean}

-- a pool is one of a store
pub record PoolFits (directory : Layout) (pool : Pool) : Type 0 where
  pub seen : IsSeen pool
  pub size : pool.page ≡ directory.page
  pub pages : length pool.frame_of ≡ page_count directory
  pub marks : AreOfPages pool.marked

-- the bytes of a page
abbrev pub page_bytes_in : Layout → List ℕ → ℕ → List ℕ
page_bytes_in directory bytes page = slice_range bytes (page * page_bytes directory.page) (page * page_bytes directory.page + page_bytes directory.page)

-- the pool whose frame was filled with these bytes, under the kept lines of the page in it
abbrev pub frame_filled : Pool → (page frame : ℕ) → List ℕ → Pool
frame_filled pool page frame bytes = kept_laid (with_bytes pool (frame * page_bytes pool.page) bytes) page

-- whether a flat line is among these of a page
abbrev pub is_among : (page : ℕ) → List ℕ → (line : ℕ) → Bool
is_among page lines line = page == page_of_line line && has lines (line % 16)

-- two pools show the same bytes over the committed ones, and the second is clean too
pub record PoolKeeps (directory : Layout) (old new : Pool) (committed : List ℕ) : Type 0 where
  pub same : bytes_over directory new committed ≡ bytes_over directory old committed
  pub clean : IsClean directory new committed

-- 1. A page that came in and was filled with its committed bytes leaves the bytes as they were.
abbrev pub BringKeeps : Type 0
BringKeeps =
    (directory : Layout) (old new : Pool) (committed : List ℕ) (page : ℕ) (keep : Option ℕ) (frame : ℕ)
    → PoolFits directory old → PoolFits directory new → length committed ≡ byte_count directory → IsClean directory old committed
    → page < page_count directory → has old.resident page ≡ false → Brought old new page keep frame
    → PoolKeeps directory old (frame_filled new page frame (page_bytes_in directory committed page)) committed

-- 2. One whose read failed leaves them too, once its kept lines lie over whatever it has and all pages went out.
abbrev pub FailedBringKeeps : Type 0
FailedBringKeeps =
    (directory : Layout) (old new : Pool) (committed bytes : List ℕ) (page : ℕ) (keep : Option ℕ) (frame : ℕ)
    → PoolFits directory old → PoolFits directory new → IsClean directory old committed
    → page < page_count directory → has old.resident page ≡ false → Brought old new page keep frame → length bytes ≡ page_bytes directory.page
    → PoolKeeps directory old (pool_emptied (frame_filled new page frame bytes)) committed

-- 3. All pages that go out leave them.
abbrev pub EmptyKeeps : Type 0
EmptyKeeps =
    (directory : Layout) (pool : Pool) (committed : List ℕ) → PoolFits directory pool → IsClean directory pool committed
    → PoolKeeps directory pool (pool_emptied pool) committed

-- 4. An undo gives its lines their committed bytes, and changes no others.
abbrev pub UndoForgets : Type 0
UndoForgets =
    (directory : Layout) (pool : Pool) (committed : List ℕ) (page : ℕ) (lines : List ℕ)
    → PoolFits directory pool → length committed ≡ byte_count directory → IsClean directory pool committed → page < page_count directory
    → ((place : ℕ) → place < byte_count directory
    → slice_index (bytes_over directory (page_undone pool page lines) committed) place
    ≡ (if is_among page lines (line_of directory place) then slice_index committed place else slice_index (bytes_over directory pool committed) place))
    × IsClean directory (page_undone pool page lines) committed

-- 5. Where other bytes are committed in marked lines alone, nothing is seen of it.
abbrev pub CommitIsUnseen : Type 0
CommitIsUnseen =
    (directory : Layout) (pool : Pool) (committed next : List ℕ)
    → IsClean directory pool committed
    → ((place : ℕ) → place < byte_count directory → is_marked directory pool place ≡ false → slice_index next place ≡ slice_index committed place)
    → (bytes_over directory pool next ≡ bytes_over directory pool committed) × IsClean directory pool next

-- 6. Lines that are settled where they are as committed leave the bytes as they were.
abbrev pub SettleKeeps : Type 0
SettleKeeps =
    (directory : Layout) (pool : Pool) (committed : List ℕ) (page : ℕ) (lines : List ℕ)
    → PoolFits directory pool → IsClean directory pool committed → page < page_count directory
    → ((place : ℕ) → place < byte_count directory → is_among page lines (line_of directory place) ≡ true
    → slice_index (bytes_over directory pool committed) place ≡ slice_index committed place)
    → PoolKeeps directory pool (settled pool page lines) committed
