-- The line of the report that a value of the code is.
use Rattle.std.specs.Prelude.{◌≤◌, length}
use Rattle.desk.specs.ReportLines as report
use Rattle.report_text.specs.declared.report_line.CommitLine.{CommitLine}
use Rattle.report_text.specs.declared.report_line.Line.{Line}
use Rattle.report_text.specs.declared.report_line.Line.TheVariants as line

-- the line that a value is
abbrev pub line_told : Line → report.ReportLine
line_told (line.Open number) = report.Open number
line_told (line.Begin activation name) = report.Begin activation name.now
line_told (line.Busy activation name) = report.Busy activation name.now
line_told (line.NoSegment activation name segment) = report.NoSegment activation name.now segment
line_told (line.Idle activation) = report.Idle activation
line_told (line.Turn activation ran pages locks) = report.Turn activation ran pages locks
line_told (line.Cycle members) = report.Cycle members.now
line_told (line.Victim activation) = report.Victim activation
line_told (line.Commit activation number steps out) = report.Commit activation number steps out.now
line_told (line.Check activation code address) = report.Check activation code address
line_told (line.Wait activation holders) = report.Wait activation holders.now
line_told (line.Journal activation lines limit) = report.Journal activation lines limit
line_told (line.Disk activation) = report.Disk activation
line_told (line.Doubt activation number) = report.Doubt activation number
line_told line.Closed = report.Closed
line_told (line.Stored number) = report.Stored number
line_told (line.Lost activation) = report.Lost activation
line_told (line.Left activation) = report.Left activation
line_told (line.End number) = report.End number

-- names have at most 31 bytes, cycles 17 members, waits 16 holders, and at most 4,096 bytes are printed
abbrev pub IsShort : Line → Type 0
IsShort (line.Begin activation name) = length name.now ≤ 31
IsShort (line.Busy activation name) = length name.now ≤ 31
IsShort (line.NoSegment activation name segment) = length name.now ≤ 31
IsShort (line.Cycle members) = length members.now ≤ 17
IsShort (line.Commit activation number steps out) = length out.now ≤ 4096
IsShort (line.Wait activation holders) = length holders.now ≤ 16
IsShort _ = Unit {0}

-- the commit line that a value is
abbrev pub commit_told : CommitLine → report.ReportLine
commit_told line = report.Commit line.activation line.number line.steps line.out.items
