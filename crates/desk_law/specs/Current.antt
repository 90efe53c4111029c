-- The bytes of a line as they are now: as an active entry wrote it, or as it is committed.
use Rattle.std.specs.Prelude.{◌≡◌, ℕ, List, length, find, Option}
use Rattle.desk_law.specs.Below.{after, byte_count, Desk, due_to, Active, flat_map, FlatStore, has, line_count, flat_line, option_map_or, Plain, range_with_len}

-- the bytes that an entry has, or those that are committed where it has no state
abbrev pub bytes_seen : FlatStore → Active → List ℕ
bytes_seen store entry = option_map_or (λ (state : Plain). state.store) (after entry.runs.program entry.runs.args store entry.rows) store.bytes

-- the entry that has a line in its due writes
abbrev pub writer : FlatStore → List Active → ℕ → Option Active
writer store entries line = find (λ (entry : Active). has (due_to store entry).writes line) entries

-- the bytes of a line as they are now, over a store and entries
abbrev pub current_of : FlatStore → List Active → ℕ → List ℕ
current_of store entries line = flat_line store.directory (option_map_or (bytes_seen store) (writer store entries line) store.bytes) line

-- the same of a desk
abbrev pub current : Desk → ℕ → List ℕ
current desk line = current_of desk.committed desk.active line

-- bytes that have every line as it is now
pub record IsCurrent (store : FlatStore) (entries : List Active) (bytes : List ℕ) : Type 0 where
  pub long : length bytes ≡ byte_count store.directory
  pub lines : (line : ℕ) → flat_line store.directory bytes line ≡ current_of store entries line

-- all lines as they are now, end to end
abbrev pub current_bytes : Desk → List ℕ
current_bytes desk = flat_map (current desk) (range_with_len 0 (line_count desk.committed.directory))
