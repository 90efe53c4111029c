-- What a run begins with, and between which two moments it went.
use Rattle.std.specs.Prelude.{ℕ, List}
use Rattle.flat_machine.specs.declared.machine.Program.{Program}
use Rattle.schedule_replay.specs.Below.{Desk, Event, event_lines, ReportLine, report, report_lines, run, DiskWord}
use Rattle.desk.specs.Calls.{Fixed}

-- what a run begins with: the names that its lines give the programs, these programs, the number with which the store opened, and the first desk
pub record Opening : Type 0 where
  pub names : List (List ℕ)
  pub programs : List Program
  pub number : ℕ
  pub start : Desk

-- these four as one
abbrev pub opening : List (List ℕ) → List Program → ℕ → Desk → Opening
opening names programs number start = record { names = names; programs = programs; number = number; start = start }

-- with these names, a supervisor whose opening set this, and from this desk
abbrev pub opening_of : List (List ℕ) → Fixed → Desk → Opening
opening_of names fixed start = opening names fixed.programs fixed.opened start

-- an outside at the start of a call, and at its end
pub record Interval (W : Type 0) : Type 0 where
  pub before : W
  pub after : W

-- these two as one
abbrev pub span : {W : Type 0} → W → W → Interval W
span before after = record { before = before; after = after }

-- the desk at which events with their words leave a run
abbrev pub run_end : Opening → List (Event × DiskWord) → Desk
run_end begins taken = run begins.programs taken begins.start

-- their lines
abbrev pub lines_of : Opening → List (Event × DiskWord) → List ReportLine
lines_of begins taken = event_lines begins.names begins.programs begins.number taken begins.start

-- the bytes and the lines of the whole report, where these events were left
abbrev pub report_of : Opening → List (Event × DiskWord) → List Event → List ℕ
report_of begins taken rest = report begins.names begins.programs begins.number taken rest begins.start

abbrev pub report_lines_of : Opening → List (Event × DiskWord) → List Event → List ReportLine
report_lines_of begins taken rest = report_lines begins.names begins.programs begins.number taken rest begins.start
