use Rattle.activations.proofs.Lemmas.{activity_of, Activity, reach_of, rolled, ◌≡◌, ◌∙◌, ap, sym, subst, shape-left, sound-after, rolls-left, commits-left, taken-of, HasSettled, HasUndone, vacated, IsUndone, IsRolledBack, CommitsWherever, seat_ended}
use Rattle.activations.proofs.activations.Activations.end.Goals as goal

pub invariant_of-self : goal.invariant_of-self
invariant_of-self c =
    let a = activity_of c.self.inside in
    let is : record a { seating = c.leave.new.self; reach = reach_of c.end.new.self } ≡ vacated (record a { reach = reach_of c.end_written.new.unit }) c.args.seat =
    λ i. record a { seating = c.leave.ensures i; reach = (c.end.ensures ∙ ap (λ (r : _). seat_ended r c.args.seat) c.clear_among.ensures) i } in
    sound-after a c.args.seat (reach_of c.end_written.new.unit) _ is c.end_written.ensures.rest c.self.invariant (taken-of c.self.inside c.self.view_is c.args.seat c.requires.taken)

pub returns : goal.returns
returns c =
    let a = activity_of c.self.inside in let seat = c.args.seat in
    let pool = (reach_of c.end.new.self).pool in
    let is : record a { seating = c.leave.new.self; reach = reach_of c.end.new.self } ≡ vacated (record a { reach = reach_of c.end_written.new.unit }) seat =
    λ i. record a { seating = c.leave.ensures i; reach = (c.end.ensures ∙ ap (λ (r : _). seat_ended r seat) c.clear_among.ensures) i } in
    let same : (reach_of c.end_written.new.unit).pool ≡ pool = sym (ap (λ (x : Activity). x.reach.pool) is) in
    let mid = c.end_written.ensures.rest ∙ ap (λ (p : _). record a.reach { pool = p }) same in
    let taken = taken-of c.self.inside c.self.view_is seat c.requires.taken in
    let sound = c.self.invariant in
    let shape = shape-left a seat (reach_of c.end_written.new.unit) _ is c.end_written.ensures.rest ∙ ap (λ (x : Activity). rolled x seat pool) c.self.view_is in
    record {
      rolls = λ not.
          let undone = subst (HasUndone a.seating.holding seat a.reach) mid (c.end_written.ensures.undone not) in
          record { shape = shape; undone = subst (λ (x : Activity). IsUndone x seat pool) c.self.view_is undone; rolls = subst (λ (x : Activity). IsRolledBack x seat pool) c.self.view_is (rolls-left a seat pool undone sound taken) };
      commits = λ so. record { shape = shape; commits = subst (λ (x : Activity). CommitsWherever x seat pool) c.self.view_is (commits-left a seat pool (subst (HasSettled a.seating.holding seat a.reach) mid (c.end_written.ensures.settled so)) sound taken) };
    }
