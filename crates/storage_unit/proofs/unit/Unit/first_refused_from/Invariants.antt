use Rattle.storage_unit.proofs.Common.{◌≡◌, ℕ, ◌+◌, ◌-◌, ◌<◌, false, line_of, is_refused, reach_of}
use Rattle.storage_unit.proofs.unit.Unit.first_refused_from.Given as goal

abbrev pub invariant-loop-past : goal.invariant-loop-past
invariant-loop-past l = (k : ℕ) → k < l.past → is_refused (reach_of l.self) (line_of l.self.directory (l.place + k)) l.store ≡ false

abbrev pub decreases-loop-past : goal.decreases-loop-past
decreases-loop-past l = l.bytes - l.past
