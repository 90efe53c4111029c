-- What sixteen seats hold of the lines of a store.
use Rattle.std.specs.Prelude.{◌≡◌, ℕ, ◌^◌, ◌==◌, ◌&&◌, not, Bool, List, [], length, All, sum_by, replicate, slice_set, slice_index_or}
use Rattle.seats.specs.declared.request.Want.{Want}
use Rattle.seats.specs.Held.{nothing, of_page, with_wants, some_conflict}

-- the number of the store's pages, and what each seat holds of each page
pub record Holding : Type 0 where
  pub pages : ℕ
  pub seats : List (List (List ℕ × List ℕ))

-- there are sixteen seats, each with that many pages
abbrev pub IsWholeHolding : Holding → Type 0
IsWholeHolding holding = (length holding.seats ≡ 16) × All (λ seat. length seat ≡ holding.pages) holding.seats

-- nothing of so many pages
abbrev pub no_lines_of : ℕ → List (List ℕ × List ℕ)
no_lines_of pages = replicate pages nothing

-- what a seat holds
abbrev pub of_seat : Holding → ℕ → List (List ℕ × List ℕ)
of_seat holding seat = slice_index_or holding.seats seat []

-- what a seat holds of a page
abbrev pub held_at : Holding → (seat page : ℕ) → List ℕ × List ℕ
held_at holding seat page = of_page (of_seat holding seat) page

-- no seat holds anything
abbrev pub nothing_held : ℕ → Holding
nothing_held pages = record { pages = pages; seats = replicate 16 (no_lines_of pages) }

-- one seat holds this, and the others what they held
abbrev pub with_seat : Holding → ℕ → List (List ℕ × List ℕ) → Holding
with_seat holding seat held = record { pages = holding.pages; seats = slice_set holding.seats seat held }

-- a seat holds what is wanted too
abbrev pub taken : Holding → ℕ → List Want → Holding
taken holding seat wants = with_seat holding seat (with_wants (of_seat holding seat) wants)

-- a seat holds nothing
abbrev pub released : Holding → ℕ → Holding
released holding seat = with_seat holding seat (no_lines_of holding.pages)

-- whether a seat is another than the one that asks, and what that one wants conflicts with what it holds
abbrev pub is_in_conflict : Holding → (asking : ℕ) → List Want → (other : ℕ) → Bool
is_in_conflict holding asking wants other = not (other == asking) && some_conflict (of_seat holding other) wants

-- the number in which the bits of these seats are on, and no others
abbrev pub bits_of_seats : List ℕ → ℕ
bits_of_seats seats = sum_by (λ seat. 2 ^ seat) seats
