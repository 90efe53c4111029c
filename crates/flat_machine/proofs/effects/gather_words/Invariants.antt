use Rattle.flat_machine.proofs.Common.{flat_map, big_bytes, ◌≡◌, ◌*◌, take, drop}
use Rattle.flat_machine.proofs.effects.gather_words.Given as goal

abbrev pub invariant-loop-i : goal.invariant-loop-i
invariant-loop-i l = take (4 * l.i) l.into ≡ flat_map (big_bytes 4) (take l.i (drop l.first l.regs))
