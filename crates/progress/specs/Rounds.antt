-- Rounds of turns with nobody begun in between, and when all are gone.
use Rattle.std.specs.Prelude.{◌≡◌, ℕ, ◌+◌, ◌-◌, ◌≤◌, ◌⊎◌, List, [], ◌∷◌, length, None}
use Rattle.desk.specs.Desk.{Active, Desk}
use Rattle.desk.specs.Instruction.{DiskWord, Doubt, turn, Unwritten}
use Rattle.desk_law.specs.Causes.{turn_desk}
use Rattle.desk_law.specs.Consistent.{IsAmong, IsConsistent}
use Rattle.flat_machine.specs.After.{after}
use Rattle.flat_machine.specs.Serial.{Activation}
use Rattle.lines.specs.FlatStore.{FlatStore}

-- a turn of an activation, of at most so many rows, and how it goes on the disk
pub record OneTurn : Type 0 where
  pub number : ℕ
  pub limit : ℕ
  pub word : DiskWord

-- it is one of these
abbrev pub IsOneOf : List OneTurn → OneTurn → Type 0
IsOneOf [] one = ⊥
IsOneOf (first ∷ turns) one = (first ≡ one) ⊎ IsOneOf turns one

-- the desk after these turns, and after rounds of them
abbrev pub after_round : List OneTurn → Desk → Desk
after_round [] desk = desk
after_round (one ∷ turns) desk = after_round turns (turn_desk (turn one.word one.number one.limit desk))

abbrev pub after_rounds : List (List OneTurn) → Desk → Desk
after_rounds [] desk = desk
after_rounds (round ∷ rounds) desk = after_rounds rounds (after_round round desk)

-- with this word no commit fails
abbrev pub KeepsCommits : DiskWord → Type 0
KeepsCommits Unwritten = ⊥
KeepsCommits Doubt = ⊥
KeepsCommits _ = Unit {0}

-- each one who is active gets one of these turns, of a row at least; and in none of them a commit fails
pub record IsFairRound (desk : Desk) (turns : List OneTurn) : Type 0 where
  pub each : (entry : Active) → IsAmong desk.active entry → (one : OneTurn) × IsOneOf turns one × (one.number ≡ entry.number) × (1 ≤ one.limit)
  pub kept : (one : OneTurn) → IsOneOf turns one → KeepsCommits one.word

-- and so each round, of those who are active when it begins
abbrev pub AreFairRounds : Desk → List (List OneTurn) → Type 0
AreFairRounds desk [] = Unit {0}
AreFairRounds desk (round ∷ rounds) = IsFairRound desk round × AreFairRounds (after_round round desk) rounds

-- on every store it ends within so many rows, its last one among them
abbrev pub EndsWithin : (most : ℕ) → Activation → Type 0
EndsWithin most runs = (store : FlatStore) → after runs.program runs.args store most ≡ None

-- the sum of a number over all entries
abbrev pub sum_over : (Active → ℕ) → List Active → ℕ
sum_over f [] = 0
sum_over f (entry ∷ entries) = f entry + sum_over f entries

-- how many rows an entry has yet, where its number ends within so many
abbrev pub rows_left : (most : ℕ → ℕ) → Active → ℕ
rows_left most entry = most entry.number - entry.rows

-- The law: of a consistent desk with nobody begun in between, where each one who is active ends within so many rows on every store, all are gone after as many
-- fair rounds as these have rows yet, all together.
abbrev pub RoundsEndAll : Type 0
RoundsEndAll =
    (most : ℕ → ℕ) (desk : Desk) (rounds : List (List OneTurn)) → IsConsistent desk
    → ((entry : Active) → IsAmong desk.active entry → EndsWithin (most entry.number) entry.runs)
    → AreFairRounds desk rounds → sum_over (rows_left most) desk.active ≤ length rounds → (after_rounds rounds desk).active ≡ []
