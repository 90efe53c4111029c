-- What is kept beside a desk and told of it: bytes, locks, requests, states and marks.
use Rattle.std.specs.Prelude.{◌≡◌, ℕ, ◌≤◌, ◌==◌, ◌&&◌, not, Bool, true, false, List, map, find, length, slice_index_or, Some}
use Rattle.desk_law.specs.Below.{after, can't_be_read, conflicts, Desk, due_to, Active, FlatStore, Grant, has, lets, flat_line, Lines, list_any, nobody, option_map_or, page_of_line, Plain, requested, DiskWord}
use Rattle.desk_law.specs.Consistent.{IsAmong}
use Rattle.desk_law.specs.Current.{IsCurrent}

-- bytes with these lines from others
pub record AreLinesLaid (store : FlatStore) (lines : List ℕ) (from old new : List ℕ) : Type 0 where
  pub long : length new ≡ length old
  pub laid : (line : ℕ) → has lines line ≡ true → flat_line store.directory new line ≡ flat_line store.directory from line
  pub kept : (line : ℕ) → has lines line ≡ false → flat_line store.directory new line ≡ flat_line store.directory old line

-- a line is on a resident page, whose authority permits a number the access
pub record IsThere (desk : Desk) (number line : ℕ) (store : Bool) : Type 0 where
  pub resident : has desk.resident (page_of_line line) ≡ true
  pub permits : lets (slice_index_or desk.authority (page_of_line line) nobody) number line store ≡ true

-- all these lines are
pub record AreLinesThere (desk : Desk) (number : ℕ) (lines : Lines) : Type 0 where
  pub reads : (line : ℕ) → has lines.reads line ≡ true → IsThere desk number line false
  pub writes : (line : ℕ) → has lines.writes line ≡ true → IsThere desk number line true

-- two sets of lines have the same members
pub record AreAlike (one other : Lines) : Type 0 where
  pub reads : (line : ℕ) → has one.reads line ≡ has other.reads line
  pub writes : (line : ℕ) → has one.writes line ≡ has other.writes line

-- the state of an entry over the bytes of all, as a storage shows it
abbrev pub over_all : Plain → List ℕ → Plain
over_all now bytes = record now { store = bytes }

-- tables by number keep the locks of each entry, and the request of each that is marked waiting, as sets
pub record AreTablesKept (store : FlatStore) (entries : List Active) (locks requests : ℕ → Lines) : Type 0 where
  pub held : (entry : Active) → IsAmong entries entry → AreAlike (locks entry.number) (due_to store entry)
  pub asked : (entry : Active) → IsAmong entries entry → entry.waiting ≡ true → AreAlike (requests entry.number) (requested store entry)

-- one table is another but at a number
pub record IsTableBut (number : ℕ) (old new : ℕ → Lines) : Type 0 where
  pub kept : (at : ℕ) → (at == number) ≡ false → new at ≡ old at

-- whether what one asks for conflicts with what another holds, by a table of locks
abbrev pub kept_conflict : Lines → (ℕ → Lines) → (number : ℕ) → Active → Bool
kept_conflict asked locks number other = not (other.number == number) && conflicts asked (locks other.number)

-- who waits for whom, by the tables
abbrev pub kept_waits : (locks requests : ℕ → Lines) → List Active → ℕ → ℕ → Bool
kept_waits locks requests entries from to =
    list_any
    (λ entry. entry.number == from && entry.waiting && list_any (λ other. other.number == to && kept_conflict (requests entry.number) locks entry.number other) entries)
    entries

-- the state of an entry is this one, but for the bytes of its store
pub record IsState (store : FlatStore) (entry : Active) (shown : Plain) : Type 0 where
  pub bytes : List ℕ
  pub at : after entry.runs.program entry.runs.args store entry.rows ≡ Some (over_all shown bytes)

-- the same of each entry, by a table
abbrev pub AreStates : FlatStore → List Active → (ℕ → Plain) → Type 0
AreStates store entries states = (entry : Active) → IsAmong entries entry → IsState store entry (states entry.number)

-- one table of states is another but at a number
abbrev pub AreStatesBut : ℕ → (old new : ℕ → Plain) → Type 0
AreStatesBut number old new = (at : ℕ) → (at == number) ≡ false → new at ≡ old at

-- all that is kept beside the entries over a store
pub record IsTableTold (store : FlatStore) (entries : List Active) (locks requests : ℕ → Lines) (states : ℕ → Plain) (bytes : List ℕ) : Type 0 where
  pub kept : AreTablesKept store entries locks requests
  pub stand : AreStates store entries states
  pub is_current : IsCurrent store entries bytes

-- a line is marked where an active entry has written it
pub record AreWrittenMarked (store : FlatStore) (entries : List Active) (marked : ℕ → Bool) : Type 0 where
  pub is : (line : ℕ) → marked line ≡ list_any (λ (entry : Active). has (due_to store entry).writes line) entries

-- each of the first so many pages that are counted can be read
abbrev pub Reads : DiskWord → ℕ → Type 0
Reads word counted = (page : ℕ) → page ≤ counted → can't_be_read word page ≡ false

-- the authority of a page with its owner told: 0 is nobody's identifier and nobody's number
abbrev pub owner_told : (numbers : ℕ → ℕ) → Grant → Grant
owner_told numbers authority = record authority { owner = numbers authority.owner }

abbrev pub owners_told : (numbers : ℕ → ℕ) → List Grant → List Grant
owners_told numbers authority = map (owner_told numbers) authority

-- on each page an identifier stands where its number is told: seats that are taken have numbers of their own
pub record StandsFor (numbers : ℕ → ℕ) (identifier number : ℕ) (authority : List Grant) : Type 0 where
  pub is : numbers identifier ≡ number
  pub alone : (page : ℕ) → ((slice_index_or authority page nobody).owner == identifier) ≡ (numbers (slice_index_or authority page nobody).owner == number)

-- seats that are taken, in the order of their activations, have entries of different numbers
pub record AreSeats (taken : List ℕ) (entry_of : ℕ → Active) : Type 0 where
  pub apart : (at other : ℕ) → has taken at ≡ true → has taken other ≡ true → ((entry_of at).number == (entry_of other).number) ≡ (at == other)

-- a table by seat, as one by number
abbrev pub by_number : {A : Type 0} → List ℕ → (ℕ → Active) → (ℕ → A) → A → ℕ → A
by_number taken entry_of table else_this number = option_map_or table (find (λ at. (entry_of at).number == number) taken) else_this
