-- What the answers to events tell of.
use Rattle.std.specs.Prelude.{◌≡◌, ℕ, ◌+◌, ◌%◌, ◌^◌, Bool, true, false, List, [], ◌∷◌, ◌++◌, map, Some, None}
use Rattle.desk.specs.declared.answers.Begun.{Begun}
use Rattle.desk.specs.declared.answers.Begun.TheVariants as begun
use Rattle.desk.specs.declared.answers.Turn.{Turn}
use Rattle.desk.specs.declared.answers.TurnEnd.{TurnEnd}
use Rattle.desk.specs.declared.answers.TurnEnd.TheVariants as end
use Rattle.desk.specs.declared.answers.Committed.{Committed}
use Rattle.desk.specs.declared.answers.Stored.{Stored}
use Rattle.desk.specs.declared.answers.Stored.TheVariants as stored
use Rattle.desk.specs.declared.answers.Reopened.{Reopened}
use Rattle.desk.specs.declared.answers.Reopened.TheVariants as reopened
use Rattle.desk.specs.Instruction.{Counts, Ending}
use Rattle.desk.specs.Instruction as turn
use Rattle.desk.specs.Run.{Happening}
use Rattle.desk.specs.Run as run

-- the happening that the answer to a begin of a program tells of
abbrev pub begun_told : (program : ℕ) → Begun → Happening
begun_told program (begun.Started activation) = run.Begun activation program
begun_told program (begun.Busy activation) = run.Busy activation program
begun_told program (begun.NoSegment activation segment) = run.NoSegment activation program segment
begun_told program begun.Shut = run.Nothing

-- the counts that a turn's answer tells
abbrev pub counts_told : Turn → Counts
counts_told answer =
    record {
      ran = answer.ran;
      pages = answer.pages;
      locks = answer.locks;
      cycles = map (λ cycle. cycle.members.items) answer.cycles.items;
    }

-- the ending that a turn's answer tells, beside what the activation had printed
abbrev pub ending_told : TurnEnd → (printed : List ℕ) → Ending
ending_told end.Idle printed = turn.Idle
ending_told end.Limit printed = turn.Limit
ending_told (end.Committed number steps) printed = turn.Committed steps printed
ending_told (end.Checked code address) printed = turn.Checked code address
ending_told (end.Waits activation holders) printed = turn.Waits holders.items
ending_told end.Victim printed = turn.Victim
ending_told (end.Journal lines limit) printed = turn.Journal lines limit
ending_told end.Disk printed = turn.Disk
ending_told (end.Closed None number) printed = turn.CommitUnwritten
ending_told (end.Closed (Some activation) number) printed = turn.CommitDoubted
ending_told end.Shut printed = turn.Idle

-- the happening that the answer to a turn tells of
abbrev pub turn_told : (activation : ℕ) → Turn → (printed : List ℕ) → Happening
turn_told activation answer printed = turned_by answer.end
  where
    turned_by : TurnEnd → Happening
    turned_by end.Shut = run.Nothing
    turned_by _ = run.Turned activation (counts_told answer) (ending_told answer.end printed)

-- the happening that the answer to a checkpoint tells of
abbrev pub stored_told : Stored → Happening
stored_told (stored.Number number) = run.CheckpointMade
stored_told stored.Closed = run.CheckpointFailed
stored_told stored.Shut = run.Nothing

-- the happening that the answer to a crash tells of, beside those that were active
abbrev pub reopened_told : (lost : List ℕ) → Reopened → Happening
reopened_told lost (reopened.Number number) = run.Crashed lost
reopened_told lost (reopened.Damaged offset) = run.CrashFailed lost
reopened_told lost reopened.DiskFault = run.CrashFailed lost
reopened_told lost reopened.Shut = run.Nothing

-- a commit, and one in doubt, enters the order with the activation, and no other end changes it
abbrev pub EntersOrder : (activation : ℕ) → TurnEnd → (old new : List (ℕ × ℕ)) → Type 0
EntersOrder activation (end.Committed told steps) old new = new ≡ old ++ (activation, steps) ∷ []
EntersOrder activation (end.Closed (Some doubted) told) old new = (steps : ℕ) × (new ≡ old ++ (activation, steps) ∷ [])
EntersOrder activation _ old new = new ≡ old

-- what the last commit printed stays but for a commit
abbrev pub KeepsPrinted : TurnEnd → (old new : List ℕ) → Type 0
KeepsPrinted (end.Committed told steps) old new = Unit {0}
KeepsPrinted _ old new = new ≡ old

-- whether an answer says that the desk is closed
abbrev pub turn_closes : TurnEnd → Bool
turn_closes (end.Closed doubt number) = true
turn_closes end.Shut = true
turn_closes _ = false

abbrev pub stored_closes : Stored → Bool
stored_closes (stored.Number number) = false
stored_closes _ = true

abbrev pub reopened_closes : Reopened → Bool
reopened_closes (reopened.Number number) = false
reopened_closes _ = true

-- the number in a checkpoint's answer is the store's
abbrev pub StoredNumber : Stored → (number : ℕ) → Type 0
StoredNumber (stored.Number told) number = told ≡ number
StoredNumber _ number = Unit {0}

-- and so that in the answer to a crash, which isn't that the bytes are damaged
abbrev pub IsReopened : Reopened → (number : ℕ) → Type 0
IsReopened (reopened.Number told) number = told ≡ number
IsReopened (reopened.Damaged offset) number = ⊥
IsReopened _ number = Unit {0}

-- The numbers in a turn's end are those of the activation and of the store after it; where a commit was not written, the number
-- that the store would have had.
abbrev pub HasNumbers : TurnEnd → (activation number : ℕ) → Type 0
HasNumbers (end.Committed told steps) activation number = told ≡ number
HasNumbers (end.Waits told holders) activation number = told ≡ activation
HasNumbers (end.Closed (Some told) after) activation number = (told ≡ activation) × (after ≡ number)
HasNumbers (end.Closed None after) activation number = after ≡ (number + 1) % 2 ^ 64
HasNumbers _ activation number = Unit {0}

-- the order that a list of commits tells
abbrev pub order_told : List Committed → List (ℕ × ℕ)
order_told commits = map (λ commit. (commit.activation, commit.steps)) commits
