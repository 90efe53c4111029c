use Rattle.serial_audit.proofs.Common.{◌≡◌, ◌-◌, ◌++◌, map, range_with_len, touch_at}
use Rattle.serial_audit.proofs.touch.Stretch.tell.Given as goal

abbrev pub invariant-loop-line : goal.invariant-loop-line
invariant-loop-line l = l.touches.items ≡ l.initial.touches.items ++ map (touch_at l.step l.self.store) (range_with_len l.self.first (l.line - l.self.first))
