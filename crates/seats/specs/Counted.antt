-- What is kept of a seat.
use Rattle.std.specs.Prelude.{◌≡◌, ◌<◌, ◌≤◌, ℕ, List, length, All}
use Rattle.std.specs.List.{AllPairs}
use Rattle.lines.specs.Sets.{has, size}
use Rattle.seats.specs.Held.{of_page, holds_some, write_count}

-- so many lines are held to write of pages with sixteen lines each
pub record AreLinesCounted (pages : List (List ℕ × List ℕ)) (written : ℕ) : Type 0 where
  pub few : length pages < 65536
  pub lines : All (λ held. length held.1 ≤ 16) pages
  pub counted : written ≡ write_count pages

-- the pages of which something is held are these, each listed once
pub record AreListed (pages : List (List ℕ × List ℕ)) (list : List ℕ) : Type 0 where
  pub each : (page : ℕ) → has list page ≡ holds_some (of_page pages page)
  pub once : size list ≡ length list

-- each number is less than those behind it
abbrev pub Ascend : List ℕ → Type 0
Ascend list = AllPairs (λ first second. first < second) list
