-- Who waits for whom.
use Rattle.std.specs.Prelude.{◌≡◌, ℕ, ◌<◌, Bool, false, List, length, All, filter, map, slice_index_or, Option}
use Rattle.std.specs.Option.{option_map, option_map_or}
use Rattle.lines.specs.LineSets.{IsOfPage}
use Rattle.lines.specs.Waits.{shown_cycle}
use Rattle.seats.specs.declared.request.Want.{Want}
use Rattle.seats.specs.Holding.{is_in_conflict}
use Rattle.seats.specs.Rows.{waits_in}
use Rattle.seats.specs.Seating.{Seating, sitter, number_in}

-- the numbers of the activations in taken seats with which a request of a seat conflicts, ascending
abbrev pub holders : Seating → (seat : ℕ) → List Want → List ℕ
holders seating seat wants = map (number_in seating) (filter (is_in_conflict seating.holding seat wants) seating.taken)

-- whether who sits in one seat waits for who sits in another
abbrev pub seat_waits : Seating → (from to : ℕ) → Bool
seat_waits seating from to = option_map_or (λ request. is_in_conflict seating.holding from request.wants.items to) (sitter seating from).waits false

-- the shown cycle of waits from a seat among those that are taken, as the numbers of the activations in it
abbrev pub cycle_of : Seating → (seat : ℕ) → Option (List ℕ)
cycle_of seating seat = option_map (map (number_in seating)) (shown_cycle (seat_waits seating) seating.taken seat)

-- the seat at a place in the order of those that are taken
abbrev pub seat_at : Seating → (place : ℕ) → ℕ
seat_at seating place = slice_index_or seating.taken place 0

-- these are the rows of who waits for whom, by place
abbrev pub AreWaits : Seating → List ℕ → Type 0
AreWaits seating rows =
    (from to : ℕ) → from < length seating.taken → to < length seating.taken → waits_in rows from to ≡ seat_waits seating (seat_at seating from) (seat_at seating to)

-- the lines that are wanted of a page are lines of a page
pub record AreOfPage (wants : List Want) : Type 0 where
  pub reads : All (λ want. IsOfPage want.reads) wants
  pub writes : All (λ want. IsOfPage want.writes) wants
