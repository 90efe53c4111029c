use Rattle.romp_asm.proofs.Common.{◌≡◌, suc, ◌+◌, ◌-◌, ap, append-nil, append_assoc, arith, length, length-append, length-replicate, nat_tests, common_steps}
use Rattle.romp_asm.proofs.output.lay_zeros.Goals as goal

pub loop-laid-preserved : goal.loop-laid-preserved
loop-laid-preserved c =
    let left : c.args.count - c.loop-laid._laid ≡ suc (c.args.count - (c.loop-laid._laid + 1)) = omega arith in
    rw (c.in_ok-push.ensures.items, append_assoc) (rw left at c.loop-laid.invariant)

pub returns-clause-value : goal.returns-clause-value
returns-clause-value c = grind (arith, nat_tests, append-nil, c.loop-laid.invariant)

pub returns-clause-short : goal.returns-clause-short
returns-clause-short c = grind (arith, common_steps, length-append, length-replicate)

pub returns-in_err-push-clause-short : goal.returns-in_err-push-clause-short
returns-in_err-push-clause-short c =
    rw c.in_err-push.ensures.items (omega (arith, simp (length-append, length-replicate) at (ap length c.loop-laid.invariant)))
