-- What lines tell of the journal and of faults of the disk, how many puts they are, and how many writes one event wants.
use Rattle.schedule_replay.proofs.Common.{◌≡◌, ℕ, ◌+◌, List, [], ◌∷◌, ◌++◌, map, cond, refl, subst, arith, false, count_by, Result, IsErr, OnOk, flat_map, sum_by-append, Failed, Turn, TurnEnd, Stored, Reopened, turn_told, counts_told, stored_told, reopened_told, Counts, Ending, Journal, JournalAfter, KeepsJournal, journal_emptied, journal_with, tells_fault, turn_fails, stored_fails, reopened_fails, ReportLine, cycle_lines, turn_lines, happening_lines, nat_tests, Happening, Turned, Crashed, CrashFailed, ◌*◌, ◌≤◌, Option, WritesMore, writes_due, commits_in, counted_quiet, lost_behind}
use Rattle.desk.specs.ReportLines as line

-- how many lines tell of a fault
abbrev pub faults_in : List ReportLine → ℕ
faults_in lines = count_by tells_fault lines

pub faults_on : (xs ys : List ReportLine) → faults_in (xs ++ ys) ≡ faults_in xs + faults_in ys
faults_on xs ys = sum_by-append (λ line. cond (tells_fault line) 1 0) xs ys

-- a list that is one in front of another has none of its own
pub faults_front : (xs ys : List ReportLine) → faults_in (xs ++ ys) ≡ 0 → faults_in xs ≡ 0
faults_front xs ys none = let split = faults_on xs ys in omega (arith, split, none)

pub faults_behind : (xs ys : List ReportLine) → faults_in (xs ++ ys) ≡ 0 → faults_in ys ≡ 0
faults_behind xs ys none = let split = faults_on xs ys in omega (arith, split, none)

-- what lines make of a journal, and then lines
pub journal_on : (xs ys : List ReportLine) (old mid new : Journal) → KeepsJournal xs old mid → KeepsJournal ys mid new → KeepsJournal (xs ++ ys) old new
journal_on [] ys old mid new first second = subst (λ (from : Journal). KeepsJournal ys from new) first second
journal_on (line.Stored number ∷ xs) ys old mid new first second = journal_on xs ys (journal_emptied old) mid new first second
journal_on (line.Commit activation number steps out ∷ xs) ys old mid new (added, first) second = (added, journal_on xs ys (journal_with old added) mid new first second)
journal_on (_ ∷ xs) ys old mid new first second = journal_on xs ys old mid new first second

-- lines of cycles and of lost activations tell neither of records nor of faults
cycles_keep : (cycles : List (List ℕ)) (journal : Journal) → KeepsJournal (flat_map cycle_lines cycles) journal journal
cycles_keep [] journal = refl
cycles_keep (cycle ∷ cycles) journal = cycles_keep cycles journal

cycles_calm : (cycles : List (List ℕ)) → faults_in (flat_map cycle_lines cycles) ≡ 0
cycles_calm [] = refl
cycles_calm (cycle ∷ cycles) = let split = faults_on (cycle_lines cycle) (flat_map cycle_lines cycles) in let rest = cycles_calm cycles in omega (arith, split, rest)

lost_keep : (lost : List ℕ) (journal : Journal) → KeepsJournal (map line.Lost lost) journal journal
lost_keep [] journal = refl
lost_keep (activation ∷ lost) journal = lost_keep lost journal

module _ (names : List (List ℕ)) (number : ℕ) where
  -- the lines of a turn
  counted_keep : (cycles : List (List ℕ)) (ends : List ReportLine) (old new : Journal) → KeepsJournal ends old new → KeepsJournal (flat_map cycle_lines cycles ++ ends) old new
  counted_keep cycles ends old new is = journal_on (flat_map cycle_lines cycles) ends old old new (cycles_keep cycles old) is

  ended_keep : (activation : ℕ) (counts : Counts) (ending : Ending) (old new : Journal) → JournalAfter (Turned activation counts ending) old new → KeepsJournal (turn_lines number activation counts ending) old new
  ended_keep activation counts ending old new is = grind (arith, nat_tests, counted_keep)

  -- what happened makes of a journal what its lines do
  pub happened_keep : (told : Happening) (old new : Journal) → JournalAfter told old new → KeepsJournal (happening_lines names number told) old new
  happened_keep (Turned activation counts ending) old new is = ended_keep activation counts ending old new is
  happened_keep (Crashed lost) old new is = journal_on (map line.Lost lost) (line.Open number ∷ []) old old new (lost_keep lost old) is
  happened_keep (CrashFailed lost) old new is = journal_on (map line.Lost lost) (line.Closed ∷ []) old old new (lost_keep lost old) is
  happened_keep _ old new is = is

  -- a turn whose lines tell of no fault didn't fail
  pub turn_calm : (activation : ℕ) (answer : Turn) (ends : TurnEnd) (printed : List ℕ) → faults_in (happening_lines names number (turn_told activation (record answer { end = ends }) printed)) ≡ 0 → turn_fails ends ≡ false
  turn_calm activation answer ends printed none = grind (arith, nat_tests, faults_on, cycles_calm)

  -- nor a checkpoint
  pub stored_calm : (answer : Stored) → faults_in (happening_lines names number (stored_told answer)) ≡ 0 → stored_fails answer ≡ false
  stored_calm answer h1 = grind (arith, nat_tests)

  -- nor a crash
  pub reopened_calm : (lost : List ℕ) (answer : Reopened) → faults_in (happening_lines names number (reopened_told lost answer)) ≡ 0 → reopened_fails answer ≡ false
  reopened_calm lost answer none = grind (arith, nat_tests, faults_on (map line.Lost lost) (line.Closed ∷ []))

-- what is said of success is said of another result, which fails where this one does
pub on_ok_as : {T U : Type 0} (P : Type 0) (result : Result T Failed) (other : Result U Failed) → (IsErr result → IsErr other) → OnOk result P → OnOk other P
on_ok_as P result other so on = grind arith

-- as many as before
pub writes_same : (told : Option ℕ) → WritesMore told told 0
writes_same told = grind (arith, nat_tests)

-- fewer are wanted
pub writes_fewer : (before after : Option ℕ) (more fewer : ℕ) → fewer ≤ more → WritesMore before after more → WritesMore before after fewer
writes_fewer before after more fewer le writes = grind arith

-- some and then some more
pub writes_on : (before between after : Option ℕ) (one two : ℕ) → WritesMore before between one → WritesMore between after two → WritesMore before after (one + two)
writes_on before between after one two first second = grind (arith, nat_tests)

module _ (names : List (List ℕ)) (number : ℕ) where
  pub stored_writes : (answer : Stored) → commits_in (happening_lines names number (stored_told answer)) ≡ 0
  stored_writes answer = grind (arith, nat_tests)

  pub reopened_writes : (lost : List ℕ) (answer : Reopened) → commits_in (happening_lines names number (reopened_told lost answer)) ≡ 0
  reopened_writes lost answer = grind (arith, lost_behind)

  pub turn_writes : (activation : ℕ) (answer : Turn) (ends : TurnEnd) (printed : List ℕ) → 2 * commits_in (happening_lines names number (turn_told activation (record answer { end = ends }) printed)) ≤ writes_due ends
  turn_writes activation answer ends printed = grind (arith, counted_quiet activation (counts_told answer))
