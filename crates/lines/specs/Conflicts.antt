-- Lines that are read and written, sixteen to a page, and when they conflict.
use Rattle.std.specs.Prelude.{ℕ, ◌*◌, ◌/◌, ◌==◌, ◌||◌, not, Bool, List, [], ◌++◌, length, map, filter}
use Rattle.std.specs.List.{range_with_len, flat_map}
use Rattle.lines.specs.Sets.{has, distinct, meets}

-- the flat page of a flat line
abbrev pub page_of_line : ℕ → ℕ
page_of_line line = line / 16

-- the pages of these lines, each once
abbrev pub pages_of : List ℕ → List ℕ
pages_of lines = distinct (map page_of_line lines)

-- the sixteen lines of a page
abbrev pub lines_of_page : ℕ → List ℕ
lines_of_page page = range_with_len (page * 16) 16

-- the lines of a page that are among these, ascending
abbrev pub within_page : ℕ → List ℕ → List ℕ
within_page page lines = filter (has lines) (lines_of_page page)

-- whether these lines of one page are all that it has
abbrev pub is_whole_page : List ℕ → Bool
is_whole_page lines = length lines == 16

-- lines that are read and lines that are written
pub record Lines : Type 0 where
  pub reads : List ℕ
  pub writes : List ℕ

-- no line
abbrev pub no_lines : Lines
no_lines = record { reads = []; writes = [] }

-- the lines of both
abbrev pub both : Lines → Lines → Lines
both first second = record { reads = first.reads ++ second.reads; writes = first.writes ++ second.writes }

-- the pages of these lines that are not fine
abbrev pub coarse_pages : (fine : ℕ → Bool) → List ℕ → List ℕ
coarse_pages fine lines = filter (λ page. not (fine page)) (pages_of lines)

-- the same, with each line that is written read too, and all lines of each page that is not fine and is written into
abbrev pub with_whole_pages : (fine : ℕ → Bool) → Lines → Lines
with_whole_pages fine lines =
    record { reads = lines.reads ++ (lines.writes ++ flat_map lines_of_page (coarse_pages fine lines.writes)); writes = lines.writes }

-- whether a request conflicts with what another holds: it writes a line that is held, or reads one that is held for writing
abbrev pub conflicts : Lines → Lines → Bool
conflicts request held = meets request.writes (held.reads ++ held.writes) || meets request.reads held.writes
