-- The lines whose bytes make up a text, and the first that is none.
use Rattle.std.specs.Prelude.{◌≡◌, ◌≢◌, ℕ, ◌+◌, ◌^◌, ◌<◌, ◌≤◌, List, [], ◌++◌, ◌∷◌, ◌⊎◌, length, map, filter, All, Option, Result, IfOk, MatchOption}
use Rattle.std.specs.List.{flat_map}
use Rattle.std.specs.Option.{option_to_list}
use Rattle.desk.specs.Commits.{is_commit}
use Rattle.desk.specs.ReportLines as report
use Rattle.desk.specs.ReportLines.{line_text}
use Rattle.job_text.specs.Ready.{IsName}
use Rattle.report_text.specs.Line.{commit_told}
use Rattle.report_text.specs.Words.{bytes_printed, numbers_in}
use Rattle.report_text.specs.declared.report_line.CommitLine.{CommitLine}
use Rattle.report_text.specs.declared.commit_reading.LinesFault.{LinesFault}
use Rattle.report_text.specs.declared.commit_reading.LinesFault.TheVariants as lines

-- the numbers of a line are of the widths of their types
abbrev pub LineHasWidths : report.ReportLine → Type 0
LineHasWidths (report.Open number) = number < 2 ^ 64
LineHasWidths (report.Begin activation name) = activation < 2 ^ 32
LineHasWidths (report.Busy activation name) = activation < 2 ^ 32
LineHasWidths (report.NoSegment activation name segment) = (activation < 2 ^ 32) × (segment < 2 ^ 32)
LineHasWidths (report.Idle activation) = activation < 2 ^ 32
LineHasWidths (report.Turn activation ran pages locks) = (activation < 2 ^ 32) × (ran < 2 ^ 32) × (pages < 2 ^ 32) × (locks < 2 ^ 32)
LineHasWidths (report.Cycle members) = All (λ member. member < 2 ^ 32) members
LineHasWidths (report.Victim activation) = activation < 2 ^ 32
LineHasWidths (report.Commit activation number steps out) =
    (activation < 2 ^ 32) × (number < 2 ^ 64) × (steps < 2 ^ 64) × All (λ byte. byte < 256) out
LineHasWidths (report.Check activation code address) = (activation < 2 ^ 32) × (code < 2 ^ 32) × (address < 2 ^ 32)
LineHasWidths (report.Wait activation holders) = (activation < 2 ^ 32) × All (λ holder. holder < 2 ^ 32) holders
LineHasWidths (report.Journal activation lines limit) = (activation < 2 ^ 32) × (lines < 2 ^ 32) × (limit < 2 ^ 32)
LineHasWidths (report.Disk activation) = activation < 2 ^ 32
LineHasWidths (report.Doubt activation number) = (activation < 2 ^ 32) × (number < 2 ^ 64)
LineHasWidths report.Closed = Unit {0}
LineHasWidths (report.Stored number) = number < 2 ^ 64
LineHasWidths (report.Lost activation) = activation < 2 ^ 32
LineHasWidths (report.Left activation) = activation < 2 ^ 32
LineHasWidths (report.End number) = number < 2 ^ 64

-- a name is one of the job grammar, a cycle has 1 to 17 members and a wait 1 to 16 holders, and at most 4,096 bytes are printed
abbrev pub IsWholeLine : report.ReportLine → Type 0
IsWholeLine (report.Begin activation name) = IsName name
IsWholeLine (report.Busy activation name) = IsName name
IsWholeLine (report.NoSegment activation name segment) = IsName name
IsWholeLine (report.Cycle members) = (1 ≤ length members) × (length members ≤ 17)
IsWholeLine (report.Commit activation number steps out) = length out ≤ 4096
IsWholeLine (report.Wait activation holders) = (1 ≤ length holders) × (length holders ≤ 16)
IsWholeLine _ = Unit {0}

-- a line that may be put
abbrev pub MayBePut : report.ReportLine → Type 0
MayBePut line = LineHasWidths line × IsWholeLine line

-- a text is made up of the bytes of these lines, and each may be put
pub record AreReportLines (text : List ℕ) (lines : List report.ReportLine) : Type 0 where
  pub bytes : text ≡ flat_map line_text lines
  pub are : All MayBePut lines

-- these are the commit lines among those whose bytes make up a text, in their order
pub record AreCommitsOf (text : List ℕ) (commits : List CommitLine) : Type 0 where
  pub lines : List report.ReportLine
  pub are : AreReportLines text lines
  pub only : map commit_told commits ≡ filter is_commit lines

-- what is told of a line: its parts, where it is that of a commit, and else nothing
abbrev pub TellsCommit : Option CommitLine → report.ReportLine → Type 0
TellsCommit told line = map commit_told (option_to_list told) ≡ filter is_commit (line ∷ [])

-- a text begins with no line
abbrev pub BeginsWithNone : List ℕ → Type 0
BeginsWithNone text = (line : report.ReportLine) (behind : List ℕ) → MayBePut line → text ≢ line_text line ++ behind

-- a text begins with a line of which this is told, and this stands behind it
abbrev pub BeginsWithTold : (text : List ℕ) → Option CommitLine → (rest : List ℕ) → Type 0
BeginsWithTold text told rest = (line : report.ReportLine) × MayBePut line × TellsCommit told line × (text ≡ line_text line ++ rest)

-- a text is a line of which this is told
abbrev pub IsToldLine : (text : List ℕ) → Option CommitLine → Type 0
IsToldLine text told = (line : report.ReportLine) × MayBePut line × TellsCommit told line × (text ≡ line_text line)

-- a text is no line
abbrev pub IsNoLine : List ℕ → Type 0
IsNoLine text = (line : report.ReportLine) → MayBePut line → text ≢ line_text line

-- a text is no line that has these lists
abbrev pub IsNoLineWith : (numbers bytes text : List ℕ) → Type 0
IsNoLineWith numbers bytes text =
    (line : report.ReportLine) → MayBePut line → numbers ≡ numbers_in line → bytes ≡ bytes_printed line → text ≢ line_text line

-- where there was memory nothing is found, and this holds, or what is found is such a one
abbrev pub Finds : {A E : Type 0} → Result (Option A) E → (none : Type 0) → (some : A → Type 0) → Type 0
Finds result none some = IfOk result (λ found. MatchOption found none some)

-- the first line of a text that is none has this number, counted from 1: behind the lines before it more stands, and begins with no line
pub record IsFirstBadLine (text : List ℕ) (number : ℕ) : Type 0 where
  pub before : List report.ReportLine
  pub rest : List ℕ
  pub lines : AreReportLines (flat_map line_text before) before
  pub place : number ≡ length before + 1
  pub bytes : text ≡ flat_map line_text before ++ rest
  pub more : rest ≢ []
  pub none : BeginsWithNone rest

-- why a text isn't read: its first line that is none, or no memory
abbrev pub IsLinesFault : (text : List ℕ) → LinesFault → Type 0
IsLinesFault text fault = ((number : ℕ) × (fault ≡ lines.Bad number) × IsFirstBadLine text number) ⊎ (fault ≡ lines.Memory)
