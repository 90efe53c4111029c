-- The same in flat lines, where page and line are one number: sixteen lines to a page.
use Rattle.std.specs.Prelude.{◌≡◌, ℕ, ◌+◌, ◌*◌, ◌<◌, List, map}
use Rattle.std.specs.List.{flat_map}
use Rattle.lines.specs.Sets.{has}
use Rattle.lines.specs.Conflicts.{Lines}
use Rattle.seats.specs.declared.request.Want.{Want}
use Rattle.seats.specs.Held.{of_page}

-- the flat lines of a page's lines
abbrev pub flat_lines : ℕ → List ℕ → List ℕ
flat_lines page lines = map (λ line. page * 16 + line) lines

-- the flat lines that are wanted
abbrev pub lines_wanted : List Want → Lines
lines_wanted wants = record {
  reads = flat_map (λ want. flat_lines want.page want.reads) wants;
  writes = flat_map (λ want. flat_lines want.page want.writes) wants;
}

-- what a seat holds, page by page, is these flat lines
pub record IsFlat (pages : List (List ℕ × List ℕ)) (lines : Lines) : Type 0 where
  pub reads : (page line : ℕ) → line < 16 → has (of_page pages page).0 line ≡ has lines.reads (page * 16 + line)
  pub writes : (page line : ℕ) → line < 16 → has (of_page pages page).1 line ≡ has lines.writes (page * 16 + line)
