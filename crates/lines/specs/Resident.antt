-- The resident pages, a list of at most so many.
use Rattle.std.specs.Prelude.{ℕ, nat_lt, not, if◌then◌else◌, List, [], ◌∷◌, ◌++◌, length, filter, remove, position, unwrap_or}
use Rattle.lines.specs.Sets.{has}

-- the list without its first page that is not among those kept, or without its first where all are
abbrev pub first_out : List ℕ → List ℕ → List ℕ
first_out kept pages = remove pages (unwrap_or (position (λ page. not (has kept page)) pages) 0)

-- the list after a page came in, last; where it was full, the first page that is not kept went out
abbrev pub brought : ℕ → List ℕ → List ℕ → ℕ → List ℕ
brought most kept pages page = (if nat_lt (length pages) most then pages else first_out kept pages) ++ page ∷ []

-- the list without these pages
abbrev pub taken_out : List ℕ → List ℕ → List ℕ
taken_out gone pages = filter (λ page. not (has gone page)) pages
