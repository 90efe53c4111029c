use Rattle.activations.proofs.Lemmas.{activity_of, [], page_count, AreWithin, took, wants_of, with_whole_page, IsActivitySound, Activity, ℕ, map, sym, ap, ◌∙◌, subst, within-whole, taken-sound, taken-of, refl}
use Rattle.activations.proofs.activations.Activations.take.Goals as goal

pub take-requires-clause-pages : goal.take-requires-clause-pages
take-requires-clause-pages c =
    let a = activity_of c.self.inside in
    let request = c.request-request.ensures ∙ ap (λ (x : Activity). map (with_whole_page x.reach.directory) (wants_of c.args.touch.now)) (sym c.self.view_is) in
    subst (AreWithin a.seating.holding.pages) (sym request)
    (subst (λ (pages : ℕ). AreWithin pages (map (with_whole_page a.reach.directory) (wants_of c.args.touch.now))) (sym c.self.invariant.pages)
    (within-whole a.reach.directory (page_count a.reach.directory) (wants_of c.args.touch.now)
    (subst (λ (x : Activity). AreWithin (page_count x.reach.directory) (wants_of c.args.touch.now)) (sym c.self.view_is) c.requires.wanted.within)))

pub invariant_of-self : goal.invariant_of-self
invariant_of-self c =
    let a = activity_of c.self.inside in
    let request = c.request-request.ensures ∙ ap (λ (x : Activity). map (with_whole_page x.reach.directory) (wants_of c.args.touch.now)) (sym c.self.view_is) in
    subst (λ (s : _). IsActivitySound (record a { seating = s })) (sym (c.take.ensures ∙ ap (took a.seating c.args.seat) request))
    (taken-sound a c.args.seat (wants_of c.args.touch.now) [] a.reach.entries c.self.invariant (taken-of c.self.inside c.self.view_is c.args.seat c.requires.taken) refl)
