-- What a turn leaves of a desk: whether it is closed, and what its order is.
use Rattle.desk_law.proofs.Common.{◌≡◌, ℕ, zero, suc, List, [], ◌∷◌, ◌++◌, Desk, Active, DiskWord, Fine, Doubt, Counts, Ending, Committed, CommitUnwritten, CommitDoubted, Turning, Going, Over, InFlight, Contest, Contested, Settled, Lost, Fetching, breaks_cycles, waits_or_gets, contest_ends, fetched_first, attempts, instruction, turns, turn, arith, nat_tests, true, false, Option, contest, Outcome}
use Rattle.desk_law.proofs.Contest.{victims-keep}

-- an open desk with this order
abbrev pub StaysOpen : List (ℕ × ℕ) → Desk → Type 0
StaysOpen order desk = (desk.closed ≡ false) × (desk.order ≡ order)

-- the desk with one commit more in its order
abbrev pub OneMore : List (ℕ × ℕ) → Desk → Type 0
OneMore order desk = (one : ℕ × ℕ) × (desk.order ≡ order ++ one ∷ [])

-- what the end of a turn of an open desk with this order left
abbrev pub Ended : DiskWord → List (ℕ × ℕ) → Desk → Ending → Type 0
Ended word order desk (Committed steps printed) = (desk.closed ≡ false) × OneMore order desk
Ended word order desk CommitUnwritten = (desk.closed ≡ true) × (desk.order ≡ order) × (word ≡ Fine → ⊥)
Ended word order desk CommitDoubted = (desk.closed ≡ true) × OneMore order desk × (word ≡ Doubt)
Ended word order desk _ = StaysOpen order desk

abbrev pub Keeps : DiskWord → List (ℕ × ℕ) → Turning → Type 0
Keeps word order (Going desk counts) = StaysOpen order desk
Keeps word order (Over desk counts ending) = Ended word order desk ending

-- a contest leaves the desk open
abbrev KeepsOpen : List (ℕ × ℕ) → Contest → Type 0
KeepsOpen order (Contested desk counts) = StaysOpen order desk
KeepsOpen order (Settled desk counts) = StaysOpen order desk
KeepsOpen order (Lost desk counts) = StaysOpen order desk

-- a turn that is over, and what it kept
abbrev pub Ends : DiskWord → List (ℕ × ℕ) → Turning → Type 0
Ends word order (Going desk counts) = ⊥
Ends word order (Over desk counts ending) = Ended word order desk ending

module _ (order : List (ℕ × ℕ)) where
  breaks_cycles_keeps : (left number : ℕ) (contest : Contest) → KeepsOpen order contest → KeepsOpen order (breaks_cycles left number contest)
  breaks_cycles_keeps left number contest kept =
      grind (arith, nat_tests, victims-keep (KeepsOpen order) number (λ desk counts kept. kept))

  waits_or_gets_keeps : (word : DiskWord) (attempt : InFlight) (refused holders : List ℕ) (desk : Desk) (counts : Counts) → StaysOpen order desk → Keeps word order (waits_or_gets word attempt refused holders desk counts)
  waits_or_gets_keeps word attempt refused holders desk counts was_open = grind (arith, nat_tests)

  contest_ends_keeps : (word : DiskWord) (attempt : InFlight) (refused : List ℕ) (contest : Contest) → KeepsOpen order contest → Keeps word order (contest_ends word attempt refused contest)
  contest_ends_keeps word attempt refused contest kept = grind (arith, nat_tests, waits_or_gets_keeps)

  fetched_first_keeps : (word : DiskWord) (attempt : InFlight) (desk : Desk) (counts : Counts) (fetching : Fetching) → StaysOpen order desk → Keeps word order (fetched_first word attempt desk counts fetching)
  fetched_first_keeps word attempt desk counts fetching was_open = grind (arith, nat_tests, contest_ends_keeps, breaks_cycles_keeps)

  attempts_keeps : (word : DiskWord) (attempt : InFlight) (outcome : Outcome) (desk : Desk) (counts : Counts) → StaysOpen order desk → Keeps word order (attempts word attempt outcome desk counts)
  attempts_keeps word attempt outcome desk counts was_open = grind (arith, nat_tests, fetched_first_keeps, was_open)

  instruction_keeps : (word : DiskWord) (entry : Option Active) (desk : Desk) (counts : Counts) → StaysOpen order desk → Keeps word order (instruction word entry desk counts)
  unfolding instruction
  instruction_keeps word entry desk counts was_open = grind (arith, nat_tests, attempts_keeps)

  turns_end : (word : DiskWord) (number left : ℕ) (turning : Turning) → Keeps word order turning → Ends word order (turns word number left turning)
  unfolding turns
  turns_end word number left (Over desk counts ending) kept = kept
  turns_end word number zero (Going desk counts) kept = kept
  turns_end word number (suc left) (Going desk counts) kept =
      grind (arith, nat_tests, instruction_keeps, turns_end word number left)

  -- each turn of an open desk comes to an end
  pub turn_ends : (word : DiskWord) (number limit : ℕ) (desk : Desk) → StaysOpen order desk → Ends word order (turn word number limit desk)
  turn_ends word number limit desk was_open = grind (arith, nat_tests, turns_end)
