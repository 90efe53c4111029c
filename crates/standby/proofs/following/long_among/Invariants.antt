use Rattle.standby.proofs.Common.{◌≤◌, length, take, All}
use Rattle.standby.proofs.following.long_among.Given as goal

-- the records so far aren't long
abbrev pub invariant-loop-place : goal.invariant-loop-place
invariant-loop-place l = record { short : All (λ kept. length kept.lines.items ≤ l.most) (take l.place l.records) }
