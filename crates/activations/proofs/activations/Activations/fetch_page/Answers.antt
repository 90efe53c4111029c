use Rattle.activations.proofs.Lemmas.{rules, activity_of, refl, has, Activity, IsActivitySound, Pool, Reach, ◌≡◌, ◌∙◌, ◌+◌, false, sym, subst, ap, came-in, on-ok, sound-pool, reach_of, OnOk, IsIn, KeepsPool}
use Rattle.activations.proofs.activations.Activations.fetch_page.Goals as goal

pub invariant_of-self : goal.invariant_of-self
invariant_of-self g c = subst (λ (r : Reach). IsActivitySound (record (activity_of c.self.inside) { reach = r })) (sym c.bring_page.ensures.rest) (sound-pool (activity_of c.self.inside) (reach_of c.bring_page.new.unit).pool c.self.invariant)

pub returns-clause-came : goal.returns-clause-came
returns-clause-came g c =
    let absent : has (reach_of c.self.inside.unit).pool.resident c.args.page ≡ false =
    ap (λ (pool : Pool). has pool.resident c.args.page) (sym c.pool.ensures) ∙ sym c.frame_of.ensures.resident ∙ sym c.is_some.ensures ∙ c.if-is_some.false in
    let in_now = subst (λ (a : Activity). OnOk c.bring_page.result (IsIn a.reach.pool (reach_of c.bring_page.new.unit).pool c.args.page c.args.keep c.args.tally.now.pages (c.args.tally.now.pages + 1))) c.self.view_is
    (on-ok _ _ c.bring_page.result c.bring_page.ensures.came (came-in c.self.inside.unit c.bring_page.new.unit c.args.page c.args.keep c.args.tally.now.pages absent)) in
    record { page_in = in_now; unread = search rules }

pub returns-clause-keeps : goal.returns-clause-keeps
returns-clause-keeps g c =
    subst (λ (a : Activity). KeepsPool g.W.Outside c.args.store.now c.args.outside.now a.reach.directory a.reach.pool (reach_of c.bring_page.new.unit).pool) c.self.view_is c.bring_page.ensures.keeps

pub returns-then-is_some-clause-keeps : goal.returns-then-is_some-clause-keeps
returns-then-is_some-clause-keeps g c committed is clean = record { same = refl; clean = clean }
