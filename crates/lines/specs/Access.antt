-- What the entry of a page grants, and the access rule.
use Rattle.std.specs.Prelude.{ℕ, ◌==◌, if◌then◌else◌, Bool, true, false, not, List, [], ◌∷◌}
use Rattle.lines.specs.Sets.{has}
use Rattle.lines.specs.Conflicts.{is_whole_page}

-- whether an access is permitted: by whether the identifier is equal, the write bit, the lockbit, and whether it is a store
abbrev pub permits : Bool → Bool → Bool → Bool → Bool
permits true true true store = true
permits true true false store = not store
permits true false true store = not store
permits true false false store = false
permits false write bit store = false

-- what the entry of a page grants: the number that owns the page, or 0 for nobody, the write bit, and the lines whose bit is on
pub record Grant : Type 0 where
  pub owner : ℕ
  pub write : Bool
  pub lines : List ℕ

-- nothing, to nobody
abbrev pub nobody : Grant
nobody = record { owner = 0; write = false; lines = [] }

-- whether a grant lets a number load from a line, or store to it
abbrev pub lets : Grant → (number line : ℕ) → (store : Bool) → Bool
lets grant number line store = permits (grant.owner == number) grant.write (has grant.lines line) store

-- what a number is granted of a page that is not fine, by its locks there: to write where it has locked a line to write
abbrev pub grant_by : ℕ → (reads writes : List ℕ) → Grant
grant_by number reads [] = record { owner = number; write = false; lines = reads }
grant_by number reads (line ∷ lines) = record { owner = number; write = true; lines = line ∷ lines }

-- and of a fine page: to write where the row stores into it, or where a line is locked to write and all sixteen are to read
abbrev pub fine_grant_by : ℕ → (storing : Bool) → (reads writes : List ℕ) → Grant
fine_grant_by number true reads writes = record { owner = number; write = true; lines = writes }
fine_grant_by number false reads writes = grant_by number reads (if is_whole_page reads then writes else [])
