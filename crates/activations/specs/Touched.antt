-- The lines that an access touches, page by page.
use Rattle.std.specs.Prelude.{[], ℕ, ◌+◌, ◌-◌, ◌*◌, ◌<◌, ◌==◌, ◌&&◌, ◌≡◌, not, if◌then◌else◌, Bool, false, filter, slice_index_or, List, ◌∷◌, ◌++◌, All, length, map}
use Rattle.activations.specs.Below.{AreDistinct, AreOfPage, AreWithin, Authority, between, grant_of, has, is_fine_page, Layout, Lines, lines_wanted, list_any, page_count, pages_of, range_with_len, refuses, union, unowned, Want}
use Rattle.activations.specs.declared.touched_lines.TouchedLines.{TouchedLines}

-- the lines from a first to a last, to store to or to load from
abbrev pub lines_between : (first last : ℕ) → (store : Bool) → Lines
lines_between first last store =
    if store
    then record { reads = []; writes = range_with_len first (last + 1 - first) }
    else record { reads = range_with_len first (last + 1 - first); writes = [] }

-- the pages of which something is wanted
abbrev pub pages_wanted : List Want → List ℕ
pages_wanted wants = map (λ want. want.page) wants

-- the lines that are wanted of a page, and where one of them is to write each of these to read too, or all of the page if it is not fine
abbrev pub with_whole_page : Layout → Want → Want
with_whole_page directory want =
    if length want.writes == 0 then want
    else record want { reads = if is_fine_page directory want.page then union want.reads want.writes else between 0 15 }

-- whether a line of a page is wanted to write
abbrev pub stores_into : List Want → (page : ℕ) → Bool
stores_into wants page = list_any (λ want. (want.page == page) && not (length want.writes == 0)) wants

-- the lines of a touch, by their pages
abbrev pub wants_of : TouchedLines → List Want
wants_of TouchedLines.Nothing = []
wants_of (TouchedLines.One want) = want ∷ []
wants_of (TouchedLines.Two first second) = first ∷ second ∷ []

-- whether an entry refuses an identifier one of the lines that are wanted of its page
abbrev pub refuses_want : List Authority → (tid : ℕ) → Want → Bool
refuses_want owned tid want = refuses (grant_of (slice_index_or owned want.page unowned)) tid (record { reads = want.reads; writes = want.writes })

-- whether the first, and the second page of a touch is refused
abbrev pub each_refused : List Authority → (tid : ℕ) → TouchedLines → Bool × Bool
each_refused owned tid TouchedLines.Nothing = (false, false)
each_refused owned tid (TouchedLines.One want) = (refuses_want owned tid want, false)
each_refused owned tid (TouchedLines.Two first second) = (refuses_want owned tid first, refuses_want owned tid second)

-- whether a touch is of one page, whose entry refuses an identifier none of its lines
abbrev pub is_granted : List Authority → (tid : ℕ) → TouchedLines → Bool
is_granted owned tid (TouchedLines.One want) = not (refuses_want owned tid want)
is_granted owned tid touch = false

-- the pages of which one is refused
abbrev pub pages_refused : List Authority → (tid : ℕ) → List Want → List ℕ
pages_refused owned tid wants = pages_wanted (filter (refuses_want owned tid) wants)

-- an entry refuses an identifier none of the lines that are wanted of its page, unless this is one of these pages
abbrev pub AreLetBut : List Authority → (tid : ℕ) → (pages : List ℕ) → List Want → Type 0
AreLetBut owned tid pages wants = All (λ want. has pages want.page ≡ false → refuses_want owned tid want ≡ false) wants

-- a page, where it is picked
abbrev pub page_if : Bool → (page : ℕ) → List ℕ
page_if picked page = if picked then page ∷ [] else []

-- the pages of a touch that are picked, the first before the second
abbrev pub pages_picked : TouchedLines → (picked : Bool × Bool) → List ℕ
pages_picked TouchedLines.Nothing picked = []
pages_picked (TouchedLines.One want) picked = page_if picked.0 want.page
pages_picked (TouchedLines.Two first second) picked = page_if picked.0 first.page ++ page_if picked.1 second.page

-- the lines of a page among these wants are those of this one
pub record IsWantApart (wants : List Want) (want : Want) : Type 0 where
  pub reads : (line : ℕ) → line < 16 → has (lines_wanted wants).reads (want.page * 16 + line) ≡ has want.reads line
  pub writes : (line : ℕ) → line < 16 → has (lines_wanted wants).writes (want.page * 16 + line) ≡ has want.writes line

-- These are lines of the store by their pages: each page is there once, and what is wanted of it are lines of it.
pub record AreWanted (directory : Layout) (wants : List Want) : Type 0 where
  pub within : AreWithin (page_count directory) wants
  pub sets : AreOfPage wants
  pub apart : All (IsWantApart wants) wants
  pub once : AreDistinct (pages_wanted wants)
  pub pages : pages_wanted wants ≡ pages_of ((lines_wanted wants).reads ++ (lines_wanted wants).writes)
