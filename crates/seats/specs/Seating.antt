-- Who sits where, and what each holds.
use Rattle.std.specs.Prelude.{◌≡◌, ℕ, ◌+◌, ◌<◌, ◌==◌, not, false, List, [], ◌∷◌, ◌++◌, length, find, filter, map, replicate, All, slice_set, slice_index_or, Option, Some, None}
use Rattle.std.specs.List.{range_with_len, AllPairs}
use Rattle.std.specs.Option.{ForSome}
use Rattle.lines.specs.Sets.{has}
use Rattle.seats.specs.declared.request.Request.{Request}
use Rattle.seats.specs.declared.request.Want.{Want}
use Rattle.seats.specs.Held.{AreWithin}
use Rattle.seats.specs.Holding.{Holding, IsWholeHolding, no_lines_of, nothing_held, of_seat, released, taken as holding_more}
use Rattle.seats.specs.declared.seat.Seat.{Seat}

-- the seats that are taken, in the order in which their activations began, who sits in each of all the seats, and what each holds
pub record Seating : Type 0 where
  pub taken : List ℕ
  pub sitters : List Seat
  pub holding : Holding

-- an activation that begins: it has done no row and waits for nothing
abbrev pub newcomer : (number program : ℕ) (args : List ℕ) → Seat
newcomer number program args = record { number = number; program = program; args = args; rows = 0; waits = None }

-- who sits in a seat
abbrev pub sitter : Seating → (seat : ℕ) → Seat
sitter seating seat = slice_index_or seating.sitters seat (newcomer 0 0 [])

-- the number of the activation in a seat
abbrev pub number_in : Seating → (seat : ℕ) → ℕ
number_in seating seat = (sitter seating seat).number

-- the numbers of the activations in the taken seats, ascending
abbrev pub numbers_seated : Seating → List ℕ
numbers_seated seating = map (number_in seating) seating.taken

-- the taken seat in which an activation sits
abbrev pub seat_of : Seating → (number : ℕ) → Option ℕ
seat_of seating number = find (λ seat. number_in seating seat == number) seating.taken

-- the seat that is next to be taken: the lowest of the sixteen that is free
unfoldable pub next_seat : Seating → Option ℕ
next_seat seating = find (λ seat. not (has seating.taken seat)) (range_with_len 0 16)

-- nobody sits anywhere, and nothing of so many pages is held
abbrev pub nobody_sits : (pages : ℕ) → Seating
nobody_sits pages = record { taken = []; sitters = replicate 16 (newcomer 0 0 (replicate 4 0)); holding = nothing_held pages }

-- another sits in a seat
abbrev pub with_sitter : Seating → (seat : ℕ) → Seat → Seating
with_sitter seating seat who = record seating { sitters = slice_set seating.sitters seat who }

-- one sits down in a seat
abbrev pub seated : Seating → (seat : ℕ) → Seat → Seating
seated seating seat who = record (with_sitter seating seat who) { taken = seating.taken ++ seat ∷ [] }

-- who sits in a seat leaves it, and holds nothing any more
abbrev pub seat_left : Seating → (seat : ℕ) → Seating
seat_left seating seat = record seating { taken = filter (λ other. not (other == seat)) seating.taken; holding = released seating.holding seat }

-- who sits in a seat has done so many rows more, and waits for nothing
abbrev pub went_on : Seating → (seat rows : ℕ) → Seating
went_on seating seat rows = with_sitter seating seat (record (sitter seating seat) { rows = (sitter seating seat).rows + rows; waits = None })

-- who sits in a seat waits for this
abbrev pub waiting_for : Seating → (seat : ℕ) → Request → Seating
waiting_for seating seat request = with_sitter seating seat (record (sitter seating seat) { waits = Some request })

-- a seat holds what is wanted too
abbrev pub took : Seating → (seat : ℕ) → List Want → Seating
took seating seat wants = record seating { holding = holding_more seating.holding seat wants }

-- What holds of sixteen seats: those that are taken are among them, the numbers in them ascend strictly, what is waited for
-- is of pages that there are, and a seat that is free holds nothing.
pub record IsSeating (seating : Seating) : Type 0 where
  pub sixteen : length seating.sitters ≡ 16
  pub among : All (λ seat. seat < 16) seating.taken
  pub ascending : AllPairs (λ seat later. number_in seating seat < number_in seating later) seating.taken
  pub within : All (λ who. ForSome who.waits (λ request. AreWithin seating.holding.pages request.wants.items)) seating.sitters
  pub whole : IsWholeHolding seating.holding
  pub free : (seat : ℕ) → seat < 16 → has seating.taken seat ≡ false → of_seat seating.holding seat ≡ no_lines_of seating.holding.pages
