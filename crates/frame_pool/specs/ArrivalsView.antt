-- What `Arrivals` and what is left of them are seen as, and what holds of their parts.
use Rattle.std.specs.Prelude.{◌≡◌, ℕ, ◌+◌, ◌<◌, true, List, slice_index, vec_len}
use Rattle.frame_pool.specs.Below.{has}
use Rattle.frame_pool.specs.Arrivals.{Arrived, IsChain, led}
use Rattle.frame_pool.specs.Sound.{is_apart}
use Rattle.frame_pool.specs.declared.arrivals.Arrivals.TheInside.{Inside}

abbrev pub order_of : Inside → List ℕ
order_of arrivals = led arrivals.next.items arrivals.count (slice_index arrivals.next.items arrivals.pages)

abbrev pub arrivals_shown : Inside → Arrived
arrivals_shown arrivals = record { pages = arrivals.pages; order = order_of arrivals }

-- the pages are a ring with the place behind the last page, where it begins and ends; none stands twice
pub record IsRing (arrivals : Inside) : Type 0 where
  pub ring : IsChain arrivals.next.items arrivals.before.items arrivals.pages (order_of arrivals) arrivals.pages
  pub apart : is_apart (order_of arrivals) ≡ true
  pub below : (page : ℕ) → has (order_of arrivals) page ≡ true → page < arrivals.pages
  pub next_long : vec_len arrivals.next ≡ arrivals.pages + 1
  pub before_long : vec_len arrivals.before ≡ arrivals.pages + 1
