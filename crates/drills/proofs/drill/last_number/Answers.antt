use Rattle.drills.proofs.Lemmas.{◌≡◌, ℕ, subst, IfOk, stop-all, stop-fresh, stop-standing, stop-stands, try-standing}
use Rattle.drills.proofs.drill.last_number.Goals as goal

pub drill_stop-requires-clause-stands : goal.drill_stop-requires-clause-stands
drill_stop-requires-clause-stands c = try-standing c.in_ok-try_store.field-0.items c.in_ok-try_store.ensures.bytes

pub number_in-requires : goal.number_in-requires
number_in-requires c = stop-standing c.args.job.now _ _ c.in_ok-whole.whole (stop-fresh c.args.job.now c.in_ok-try_store.field-0.items _ _ c.in_ok-whole.whole c.in_ok-try_store.ensures.bytes c.in_ok-whole.ensures.stop)

pub returns : goal.returns
returns c =
    let is = stop-fresh c.args.job.now c.in_ok-try_store.field-0.items _ _ c.in_ok-whole.whole c.in_ok-try_store.ensures.bytes c.in_ok-whole.ensures.stop in
    subst (λ (n : ℕ). IfOk c.number_in.result (λ number. number ≡ n)) (stop-all c.args.job.now _ _ c.in_ok-whole.whole is c.if-whole.false) (c.number_in.ensures is.j is.left (stop-stands c.args.job.now _ _ c.in_ok-whole.whole is))
