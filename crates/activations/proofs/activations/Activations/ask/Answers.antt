use Rattle.activations.proofs.Lemmas.{AreWanted, Want, asking, activity_of, Inside, ◌≡◌, List, map, Activity, TouchedLines, AreWithin, with_whole_page, taken-of, Seating, sitter, holders, desk_over, IsActivitySound, KeepsParts, StandsStill, IsContested, tally_counts, wants_of, taken-below, ℕ, IsSome, ap, sym, ◌∙◌, subst, EndsContest, keeps-two, still-on, ok-then, some-holders, asked-within, sound-asking, asks-now, keeps-asking, still-asking, asked-whole, IfErr, rules}
use Rattle.activations.proofs.activations.Activations.ask.Goals as goal

-- what is asked for is of pages that are there
within : (fields : Inside) {now : Activity} (is : activity_of fields ≡ now) (touch : TouchedLines) (items : List Want) → IsActivitySound (activity_of fields) → AreWanted now.reach.directory (wants_of touch)
    → items ≡ map (with_whole_page now.reach.directory) (wants_of touch) → AreWithin fields.seats.holding.pages items
within fields {now} is touch items whole wanted asked =
    subst (λ (a : Activity). AreWithin a.seating.holding.pages items) (sym is) (asked-within now (wants_of touch) items (subst IsActivitySound is whole) wanted asked)

pub holders-requires : goal.holders-requires
holders-requires c = within c.self.inside c.self.view_is c.args.touch.now _ c.self.invariant c.requires.wanted c.request-request.ensures

pub wait-requires-clause-seat : goal.wait-requires-clause-seat
wait-requires-clause-seat c = let sound = c.self.invariant.seating in taken-below c.self.inside.seats sound c.args.seat (taken-of c.self.inside c.self.view_is c.args.seat c.requires.taken)

pub wait-requires-clause-pages : goal.wait-requires-clause-pages
wait-requires-clause-pages c = within c.self.inside c.self.view_is c.args.touch.now _ c.self.invariant c.requires.wanted c.request-request.ensures

pub invariant_of-self : goal.invariant_of-self
invariant_of-self c =
    let a = activity_of c.self.inside in
    subst (λ (s : Seating). IsActivitySound (record a { seating = s })) (sym c.wait.ensures)
    (sound-asking a c.args.seat c.request-request.result c.self.invariant (taken-of c.self.inside c.self.view_is c.args.seat c.requires.taken)
    (within c.self.inside c.self.view_is c.args.touch.now _ c.self.invariant c.requires.wanted c.request-request.ensures)
    (asked-whole c.args.self.now.reach.directory (wants_of c.args.touch.now) c.request-request.result.wants.items c.requires.wanted.sets c.request-request.ensures))

pub contend-requires-clause-waits : goal.contend-requires-clause-waits
contend-requires-clause-waits c = subst (λ (s : Seating). IsSome (sitter s c.args.seat).waits) (sym c.wait.ensures)
    (asks-now (activity_of c.self.inside) c.args.seat c.request-request.result c.self.invariant (taken-of c.self.inside c.self.view_is c.args.seat c.requires.taken))

pub returns : goal.returns
returns c =
    let a = c.args.self.now in let seat = c.args.seat in
    let request = c.request-request.result in let sound = subst IsActivitySound c.self.view_is c.self.invariant in
    let mid = record (activity_of c.self.inside) { seating = c.wait.new.self } in
    let is : mid ≡ asking a seat request = (λ i. record (activity_of c.self.inside) { seating = c.wait.ensures i }) ∙ ap (λ (x : Activity). asking x seat request) c.self.view_is in
    let still = subst (λ (x : Activity). StandsStill a x seat) (sym is) (still-asking a seat request sound c.requires.taken) in
    let keeps = subst (λ (x : Activity). KeepsParts a x 0) (sym is) (keeps-asking a seat request sound c.requires.taken) in record {
      keeps = keeps-two a mid c.contend.new.self keeps c.contend.ensures.keeps;
      counts = c.contend.ensures.counts;
      stays = ok-then c.contend.result (still-on a mid c.contend.new.self seat still) c.contend.ensures.stays;
      ends = subst (λ (n : ℕ). IfErr c.contend.result (EndsContest n c.contend.new.tally)) still.seated.number c.contend.ensures.ends;
      settled = λ begins attempt refused committed order asked.
          let others = some-holders c.holders.result.items (sym c.is_empty.ensures ∙ c.if-is_empty.false) in
          let held = c.holders.ensures ∙ ap (λ (x : Activity). holders x.seating seat request.wants.items) c.self.view_is ∙ ap (holders a.seating seat) c.request-request.ensures in
          c.contend.ensures.settled begins attempt refused (desk_over a committed order) committed order (asked.number ∙ sym still.seated.number)
          (subst (λ (x : Activity). IsContested begins attempt refused (desk_over a committed order) x committed order (tally_counts c.args.tally.now)) (sym is)
          (asked.contested request others.0 others.1 c.request-request.ensures (sym held ∙ others.2)));
    }

pub returns-then-is_empty : goal.returns-then-is_empty
returns-then-is_empty c = record {
  keeps = search rules;
  counts = search rules;
  stays = search rules;
  ends = search rules;
  settled = search rules;
}
