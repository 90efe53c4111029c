-- A store as one list of bytes.
use Rattle.std.specs.Prelude.{◌≡◌, ℕ, List, length}
use Rattle.lines.specs.Directory.{Layout, byte_count}

-- the segments of a directory laid end to end
pub record FlatStore : Type 0 where
  pub directory : Layout
  pub bytes : List ℕ

-- it has as many bytes as its segments
abbrev pub IsWholeStore : FlatStore → Type 0
IsWholeStore store = length store.bytes ≡ byte_count store.directory
