-- What the pages that are left are seen as.
use Rattle.std.specs.Prelude.{◌≡◌, ℕ, ◌<◌, true, List, length}
use Rattle.frame_pool.specs.Below.{has}
use Rattle.frame_pool.specs.Arrivals.{led}
use Rattle.frame_pool.specs.declared.arrivals.Resident.TheInside.{Inside}

abbrev pub left_shown : Inside → List ℕ
left_shown pages = led pages.next.now pages.count pages.at

-- each page that is left has a next
abbrev pub HaveNext : Inside → Type 0
HaveNext pages = (page : ℕ) → has (left_shown pages) page ≡ true → page < length pages.next.now
