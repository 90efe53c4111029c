use Rattle.flat_machine.proofs.Common.{◌≡◌, ◌+◌, ◌-◌, ◌*◌, ◌/◌, drop, length, fill_words}
use Rattle.flat_machine.proofs.effects.fill_registers.Given as goal

abbrev pub invariant-loop-i : goal.invariant-loop-i
invariant-loop-i l = fill_words (length l.bytes / 4 - l.i) (l.first + l.i) (drop (4 * l.i) l.bytes) l.regs ≡ fill_words (length l.bytes / 4) l.first l.bytes l.initial.regs
