-- What the lines of one answer are, and what putting lines does.
use Rattle.std.specs.Prelude.{◌≡◌, ℕ, List, [], ◌∷◌, ◌++◌, length, take, Option, None, Some, Result, IsSome, unwrap_or}
use Rattle.schedule_replay.specs.Below.{Failed, flat_map, Ghosts, Leaves, OnlyPuts, Prints}
pub use Rattle.outside.specs.Runs.{PutsTimes}
use Rattle.schedule_replay.specs.Below.{counts_told, cycle_lines, ending_lines, ending_told, ReportLine, line_text, Reopened, Stored, Turn, TurnEnd}
use Rattle.desk.specs.declared.answers.TurnEnd.TheVariants as end
use Rattle.desk.specs.declared.answers.Stored.TheVariants as stored
use Rattle.desk.specs.declared.answers.Reopened.TheVariants as reopened
use Rattle.schedule_replay.specs.declared.answer_lines.Unended.{Unended}
use Rattle.schedule_replay.specs.declared.answer_lines.Unended.TheVariants as unended
use Rattle.desk.specs.ReportLines as line

-- the bytes printed, or none where they aren't told
abbrev pub shown_on : {W : Type 0} → Ghosts W → W → List ℕ
shown_on G outside = unwrap_or (G.printed outside) []

-- These lines are put, each by one put, or a prefix of their bytes where a put failed. A crash since then leaves an image of the start,
-- and what was printed then with a prefix of these bytes.
pub record Puts {W T : Type 0} (G : Ghosts W) (lines : List ReportLine) (old new : W) (result : Result T Failed) : Type 0 where
  pub only : OnlyPuts G old new result
  pub printed : Prints (G.printed old) (G.printed new) (flat_map line_text lines) result
  pub times : PutsTimes G (length lines) old new result
  pub images : (image seen : List ℕ) → G.left_since new (G.moment old) image seen → (start : List ℕ) × G.left_since old (G.moment old) image start
  pub crash : IsSome (G.printed old) → Leaves G (λ image seen. G.left_since old (G.moment old) image (shown_on G old) × ((count : ℕ) × (seen ≡ shown_on G old ++ take count (flat_map line_text lines)))) old new

-- the store's number that the end of a turn tells, or 0
abbrev pub end_number : TurnEnd → ℕ
end_number (end.Committed number steps) = number
end_number (end.Closed doubt number) = number
end_number _ = 0

-- the store's number that the answer to a checkpoint tells, or 0
abbrev pub stored_number : Stored → ℕ
stored_number (stored.Number number) = number
stored_number _ = 0

-- the store's number that the answer to a crash tells, or 0
abbrev pub reopened_number : Reopened → ℕ
reopened_number (reopened.Number number) = number
reopened_number _ = 0

-- the line of an activation that has no end of its own
abbrev pub unended_told : Unended → ℕ → ReportLine
unended_told unended.Left = line.Left
unended_told unended.Lost = line.Lost

-- the lines of a turn that had an instruction to attempt: its counts, the rollbacks and its end
abbrev pub counted_lines : ℕ → Turn → List ℕ → List ReportLine
counted_lines activation turn printed =
    line.Turn activation turn.ran turn.pages turn.locks
    ∷ (flat_map cycle_lines (counts_told turn).cycles ++ ending_lines (end_number turn.end) activation (ending_told turn.end printed))

-- what is printed now is what was printed before, and then bytes that begin with these
abbrev pub BeginsWith : Option (List ℕ) → Option (List ℕ) → List ℕ → Type 0
BeginsWith None now bytes = Unit {0}
BeginsWith (Some before) now bytes = (rest : List ℕ) × (now ≡ Some (before ++ (bytes ++ rest)))
