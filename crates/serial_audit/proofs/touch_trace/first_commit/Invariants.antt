use Rattle.serial_audit.proofs.Common.{map, take, Contains, ToldLine, report_told}
use Rattle.serial_audit.proofs.touch_trace.first_commit.Given as goal

abbrev pub invariant-loop-place : goal.invariant-loop-place
invariant-loop-place l = ¬ (Contains (map (λ (line : ToldLine). line.activation) (report_told (take l.place l.report))) l.activation)
