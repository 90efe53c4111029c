use Rattle.romp_asm.proofs.Common.{◌≡◌, ◌-◌, ◌++◌, replicate}
use Rattle.romp_asm.proofs.output.lay_zeros.Given as goal

abbrev pub invariant-loop-laid : goal.invariant-loop-laid
invariant-loop-laid l = l.image.items ++ replicate (l.count - l._laid) 0 ≡ l.initial.image.items ++ replicate l.count 0
