-- What holds of a desk at every moment.
use Rattle.std.specs.Prelude.{◌≡◌, ℕ, ◌<◌, ◌≤◌, ◌==◌, ◌⊎◌, Bool, true, false, IsTrue, IsFalse, List, [], ◌∷◌, length, slice_index_or, Some, None}
use Rattle.desk_law.specs.Below.{absent_segment, after, all_of, Desk, due_to, Active, FlatStore, Grant, has, IsWholeStore, leads, lets, Lines, nobody, numbers, page_count, page_of_line, Plain, size, waits_for}

-- an entry is one of these
abbrev pub IsAmong : List Active → Active → Type 0
IsAmong [] entry = ⊥
IsAmong (one ∷ entries) entry = (one ≡ entry) ⊎ IsAmong entries entry

-- the numbers of entries ascend strictly, above one number and below another
abbrev pub NumbersAscend : (above : ℕ) → List Active → (below : ℕ) → Type 0
NumbersAscend above [] below = above < below
NumbersAscend above (entry ∷ entries) below = (above < entry.number) × NumbersAscend entry.number entries below

-- an entry has a state after its rows, has written no more lines than a record may have, and names segments that there are
pub record IsLive (store : FlatStore) (most_lines : ℕ) (entry : Active) : Type 0 where
  pub state : Plain
  pub is : after entry.runs.program entry.runs.args store entry.rows ≡ Some state
  pub few : size (due_to store entry).writes ≤ most_lines
  pub present : absent_segment store.directory entry.runs.program.windows ≡ None

-- no line that is written by one is held by the other
pub record AreLinesApart (first second : Lines) : Type 0 where
  pub first_writes : (line : ℕ) → IsTrue (has first.writes line) → IsFalse (has (all_of second) line)
  pub second_writes : (line : ℕ) → IsTrue (has second.writes line) → IsFalse (has (all_of first) line)

-- what an authority over a page permits to a number is among these locks
pub record IsCovered (authority : Grant) (page number : ℕ) (locks : Lines) : Type 0 where
  pub loads : (line : ℕ) → page_of_line line ≡ page → IsTrue (lets authority number line false) → IsTrue (has locks.reads line)
  pub stores : (line : ℕ) → page_of_line line ≡ page → IsTrue (lets authority number line true) → IsTrue (has locks.writes line)

-- the owner of a page is nobody or an active entry
abbrev pub IsOwned : List Active → Grant → Type 0
IsOwned entries authority = (authority.owner ≡ 0) ⊎ ((entry : Active) × IsAmong entries entry × (authority.owner ≡ entry.number))

-- each page has an authority, its owner is nobody or active, and what it permits to an active entry is among the entry's due locks
pub record IsHeld (store : FlatStore) (entries : List Active) (authority : List Grant) : Type 0 where
  pub pages : length authority ≡ page_count store.directory
  pub owned : (page : ℕ) → IsOwned entries (slice_index_or authority page nobody)
  pub covered : (page : ℕ) (entry : Active) → IsAmong entries entry → IsCovered (slice_index_or authority page nobody) page entry.number (due_to store entry)

-- no number leads back to itself, in however many steps
abbrev pub HasNoCycle : (waits : ℕ → ℕ → Bool) → (all : List ℕ) → Type 0
HasNoCycle waits all = (steps number : ℕ) → IsFalse (leads waits all steps number number)

-- The numbers of the active entries ascend from 1 on, below the next one; each entry is live; and no line in the due writes of one is in the
-- due locks of another.
pub record AreConsistent (store : FlatStore) (most_lines next : ℕ) (entries : List Active) : Type 0 where
  pub ascend : NumbersAscend 0 entries next
  pub live : (entry : Active) → IsAmong entries entry → IsLive store most_lines entry
  pub apart : (entry other : Active) → IsAmong entries entry → IsAmong entries other → IsFalse (entry.number == other.number) → AreLinesApart (due_to store entry) (due_to store other)

-- each of these pages is there once
abbrev pub AreDistinct : List ℕ → Type 0
AreDistinct [] = Unit {0}
AreDistinct (page ∷ pages) = IsFalse (has pages page) × AreDistinct pages

-- the resident pages are at most as many as the frames, each once, and pages of the store
pub record AreResident (frames pages : ℕ) (resident : List ℕ) : Type 0 where
  pub few : length resident ≤ frames
  pub once : AreDistinct resident
  pub within : (page : ℕ) → IsTrue (has resident page) → page < pages

-- A desk is consistent. Its committed store has all its bytes. It has two frames at least, and its resident pages fit them. No more entries
-- are active than it takes, and they are consistent. What authority permits is held. And nobody waits for himself, in however many steps.
pub record IsConsistent (desk : Desk) : Type 0 where
  pub whole : IsWholeStore desk.committed
  pub frames : 2 ≤ desk.frames
  pub resident : AreResident desk.frames (page_count desk.committed.directory) desk.resident
  pub few : length desk.active ≤ desk.most_active
  pub active : AreConsistent desk.committed desk.most_lines desk.next desk.active
  pub held : IsHeld desk.committed desk.active desk.authority
  pub no_cycle : HasNoCycle (waits_for desk) (numbers desk)
