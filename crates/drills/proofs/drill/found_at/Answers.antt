use Rattle.drills.proofs.Lemmas.{◌*◌, ◌≤◌, length, ap, refl, subst, List, ℕ, sym, fine_order, try_flat, try_order, stop-fresh, stop-standing, stop-stands, try-standing, try-stands, unreached}
use Rattle.drills.proofs.drill.found_at.Goals as goal

pub drill_stop-requires-clause-stands : goal.drill_stop-requires-clause-stands
drill_stop-requires-clause-stands c = try-standing c.in_ok-try_store.field-0.items c.in_ok-try_store.ensures.bytes

pub number_in-requires : goal.number_in-requires
number_in-requires c =
    stop-standing c.args.job.now c.args.write c.args.outcome.items c.in_ok-stop.stop
    (stop-fresh c.args.job.now c.in_ok-try_store.field-0.items c.args.write c.args.outcome.items c.in_ok-stop.stop c.in_ok-try_store.ensures.bytes c.in_ok-stop.ensures.stop)

pub returns-in_ok-number : goal.returns-in_ok-number
returns-in_ok-number c =
    let is = stop-fresh c.args.job.now c.in_ok-try_store.field-0.items c.args.write c.args.outcome.items c.in_ok-stop.stop c.in_ok-try_store.ensures.bytes c.in_ok-stop.ensures.stop in
    (c.in_ok-stop.stop, is, c.if-stop.true, refl, c.in_ok-number.ensures is.j is.left (stop-stands c.args.job.now c.args.write c.args.outcome.items c.in_ok-stop.stop is))

pub returns-else-stop : goal.returns-else-stop
returns-else-stop c =
    let job = c.args.job.now in let image = c.in_ok-try_store.field-0.items in
    let bytes = c.in_ok-try_store.ensures.bytes in (
      unreached c.in_ok-stop.stop.reached (2 * length (try_order job)) c.args.write c.if-stop.false
          (λ due. c.in_ok-stop.ensures.reached 0 try_flat (try-stands image bytes) (subst (λ (n : ℕ). c.args.write ≤ 2 * n) (ap (λ (these : List ℕ). length (fine_order job these try_flat)) (sym bytes)) due)),
      (c.args.outcome.items, c.in_ok-stop.stop, stop-fresh job image c.args.write c.args.outcome.items c.in_ok-stop.stop bytes c.in_ok-stop.ensures.stop, c.if-stop.false),
    )
