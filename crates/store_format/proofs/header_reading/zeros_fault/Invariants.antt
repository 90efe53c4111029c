use Rattle.store_format.proofs.Common.{◌≡◌, ◌-◌, zeros, first_fault}
use Rattle.store_format.proofs.header_reading.zeros_fault.Given as goal

abbrev pub invariant-loop-at : goal.invariant-loop-at
invariant-loop-at l = first_fault l.length (zeros l.head l.at (l.to - l.at)) ≡ first_fault l.length (zeros l.head l.from (l.to - l.from))
