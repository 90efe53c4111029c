-- The record of a commit: the lines that who sits in a seat holds to write, as all see them.
use Rattle.std.specs.Prelude.{[], ◌≡◌, ℕ, ◌+◌, ◌<◌, ◌%◌, List, ◌∷◌, ◌++◌, All, length, map, Some}
use Rattle.activations.specs.Below.{after, AllPairs, begun_of, Commit, entry_bytes, flat_lines, flat_map, has, Header, held_at, holds_some, StoreView, laid, most_lines, over_all, page_of_line, PageSize, Plain, Pool, record_bytes_of, row, with_begun}
use Rattle.frame_pool.specs.Pool.{line_shown}
use Rattle.seats.specs.Counted.{Ascend}
use Rattle.store_format.specs.Bank.{RecordLine}
use Rattle.activations.specs.Activity.{Activity, program_in, entry_in, store_over, locks_in, shown}
use Rattle.activations.specs.Follows.{KeepsDesk}
use Rattle.activations.specs.Steps.{wrote}

-- the bytes of a flat line in the pool
abbrev pub pool_line : Pool → (line : ℕ) → List ℕ
pool_line pool line = line_shown pool (page_of_line line) (line % 16)

-- a store with this header is that of what runs: it has the same directory, and records of as many lines
pub record IsItsStore (header : Header) (a : Activity) : Type 0 where
  pub directory : header.directory ≡ a.reach.directory
  pub most : most_lines header ≡ a.most_lines

-- Lines of a record of what a seat holds to write: they ascend, those that are held to write are there, and no others, and
-- each has the bytes that the pool has of it.
pub record IsRecordOf (a : Activity) (seat : ℕ) (lines : List RecordLine) : Type 0 where
  pub ascending : AllPairs (λ first second. first.line < second.line) lines
  pub each : (line : ℕ) → has (map (λ one. one.line) lines) line ≡ has (locks_in a seat).writes line
  pub bytes : All (λ one. one.bytes ≡ pool_line a.reach.pool one.line) lines

-- laid over what is committed, these lines leave what who sits in a seat commits
abbrev pub LaidIsCommitted : Activity → (seat : ℕ) → List RecordLine → Type 0
LaidIsCommitted a seat lines =
    (committed : List ℕ) (now : Plain) → KeepsDesk a committed
    → after (program_in a seat) (entry_in a seat).runs.args (store_over a committed) (entry_in a seat).rows ≡ Some now
    → row (program_in a seat) a.reach.directory (over_all now (shown a committed)) ≡ Commit
    → laid a.reach.directory.page committed lines ≡ now.store

-- a record's lines at these flat lines of a store with pages of a size, with the bytes that each has, from an offset on
abbrev pub recorded : PageSize → (bytes : ℕ → List ℕ) → (at : ℕ) → List ℕ → List RecordLine
recorded size bytes at [] = []
recorded size bytes at (line ∷ lines) = record { line = line; at = at; bytes = bytes line } ∷ recorded size bytes (at + entry_bytes size) lines

-- the flat lines of these pages that a seat holds to write, page by page
abbrev pub written_of : Activity → (seat : ℕ) → (pages : List ℕ) → List ℕ
written_of a seat pages = flat_map (λ page. flat_lines page (wrote a seat page)) pages

-- the record that is begun has these lines of the pool behind those that it had
abbrev pub with_lines : Pool → (lines : List ℕ) → StoreView → StoreView
with_lines pool lines store =
    with_begun store (begun_of store.bank ++ recorded store.bank.page (pool_line pool) (store.bank.gate + record_bytes_of store.bank (length (begun_of store.bank))) lines)

-- The record that is begun has the lines that a seat holds to write of pages that ascend: all those of which it holds some.
pub record HasWritten (a : Activity) (seat : ℕ) (old new : StoreView) : Type 0 where
  pub pages : List ℕ
  pub ascending : Ascend pages
  pub all : (page : ℕ) → has pages page ≡ holds_some (held_at a.seating.holding seat page)
  pub is : new ≡ with_lines a.reach.pool (written_of a seat pages) old
