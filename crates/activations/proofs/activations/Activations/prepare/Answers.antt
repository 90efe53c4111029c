use Rattle.activations.proofs.Lemmas.{AreWanted, KeepsParts, keeps-pool, AreWithin, page_count, refl, Bool, List, ℕ, AreLetBut, WillTouch, IsPoolMoved, pages_picked, picked-refused, taken-below, let-but, pages_refused, shut-touches, touch-on, TurnEnd, IsClean, Tally, Activity, HasBrokenOff, IsPrepared, Prepares, IsFetched, instruction_in, with_other_pool, wants_of, pages_wanted, HasEnded, HasBroken, tally_counts, asks_none, ◌+◌, Result, sym, ◌∙◌, ap, subst, keeps-left, keeps-broke, is-to-serve, prepare-broke, prepared-so, handed, rules}
use Rattle.activations.proofs.activations.Activations.prepare.Goals as goal

pub returns-in_err-keep_limit-clause-came : goal.returns-in_err-keep_limit-clause-came
returns-in_err-keep_limit-clause-came g c = record {
  keeps = record { asks = asks_none g.W.Outside c.args.outside.now; parts = keeps-left c.args.self.now c.keep_limit.new.self c.args.seat _ c.in_err-keep_limit.ensures.back };
  on = search rules;
  over = search rules;
  no_limit = search rules;
  step = λ committed order is follows.
      let counts = tally_counts c.args.tally.now in
      let to = is-to-serve c.args.self.now c.args.seat c.args.access (wants_of c.touch_of-touch.result) c.touch_of-touch.ensures.sound c.requires.can.taken c.requires.can.selected c.requires.shut
      c.touch_of-touch.ensures.lines committed follows in
      handed (λ (r : Result _ TurnEnd). Prepares r (instruction_in c.args.self.now c.args.seat committed order counts) c.keep_limit.new.self c.args.seat committed order counts)
      c.from_residual.result c.in_err-keep_limit.field-0.0 c.from_residual.ensures.1 (c.in_err-keep_limit.ensures.over committed order counts to.0 to.1);
}

pub returns-in_err-bring-clause-came : goal.returns-in_err-bring-clause-came
returns-in_err-bring-clause-came g c = record {
  keeps =
      let broke = c.in_err-bring.ensures.brings.broke in
      record { asks = c.bring.ensures.asks; parts = subst (λ (x : Activity). KeepsParts x c.bring.new.self 0) c.in_ok-keep_limit.ensures.kept.0 (keeps-broke c.keep_limit.new.self c.bring.new.self c.args.seat broke.pool _ broke.shape) };
  on = search rules;
  over = search rules;
  no_limit = search rules;
  step = λ committed order is follows.
      let a = c.args.self.now in let counts = tally_counts c.args.tally.now in
      let begins = instruction_in a c.args.seat committed order counts in
      let to = is-to-serve a c.args.seat c.args.access (wants_of c.touch_of-touch.result) c.touch_of-touch.ensures.sound c.requires.can.taken c.requires.can.selected c.requires.shut
      c.touch_of-touch.ensures.lines committed follows in
      let broke =
      prepare-broke a c.args.seat committed order counts c.touch_of-touch.result to.0 to.1 c.touch_of-touch.ensures.wanted c.in_ok-keep_limit.ensures.kept.1
      g.W.Outside c.args.store.now c.args.outside.now c.bring.new.self c.bring.new.tally.pages is
      (subst (λ (a : Activity). HasBrokenOff g.W.Outside c.args.store.now c.args.outside.now a c.args.seat (pages_wanted (wants_of c.touch_of-touch.result)) c.args.tally.now.pages c.bring.new.self c.bring.new.tally.pages)
      c.in_ok-keep_limit.ensures.kept.0 c.in_err-bring.ensures.brings.broke) in
      handed (λ (r : Result _ TurnEnd). Prepares r begins c.bring.new.self c.args.seat committed order (tally_counts c.bring.new.tally))
      c.from_residual-in_err-bring.result c.in_err-bring.field-0.0 c.from_residual-in_err-bring.ensures.1
      (subst (λ (how : TurnEnd). HasEnded how begins c.bring.new.self committed order (tally_counts c.bring.new.tally)) (sym c.in_err-bring.ensures.ends.is)
      (subst (λ (t : Tally). HasBroken begins c.bring.new.self committed order (tally_counts t)) (sym c.bring.ensures.counts.rest) broke));
}

pub returns-clause-may : goal.returns-clause-may
returns-clause-may g c =
    let a = c.args.self.now in let new = c.bring.new.self in let touch = c.touch_of-touch.result in
    let wants = wants_of touch in let same = c.in_ok-keep_limit.ensures.kept.0 in
    let runner = c.requires.can.selected.runner in let came = c.in_ok-bring.ensures.shape ∙ ap (λ (x : Activity). with_other_pool x new.reach.pool) same in
    let moved : IsPoolMoved a.reach.pool new.reach.pool = subst (λ (x : Activity). IsPoolMoved x.reach.pool new.reach.pool) same c.in_ok-bring.ensures.brings.fetched.moved in
    record {
      wanted = subst (λ (x : Activity). AreWanted x.reach.directory wants) (sym came) c.touch_of-touch.ensures.wanted;
      touches = subst (λ (x : Activity). WillTouch x c.args.seat wants) (sym came)
          (touch-on a (with_other_pool a new.reach.pool) c.args.seat wants refl runner runner refl refl (moved.private c.args.seat (taken-below a.seating c.touch_of-touch.ensures.sound.seating c.args.seat c.requires.can.taken))
          (shut-touches a c.args.seat c.args.access wants c.requires.shut c.touch_of-touch.ensures.lines));
      refused = subst (λ (picked : Bool × Bool). AreLetBut new.reach.entries (c.args.seat + 1) (pages_picked touch picked) wants) (sym c.refused-refused.ensures)
          (subst (λ (pages : List ℕ). AreLetBut new.reach.entries (c.args.seat + 1) pages wants) (sym (picked-refused new.reach.entries (c.args.seat + 1) touch))
          (let-but new.reach.entries (c.args.seat + 1) (pages_refused new.reach.entries (c.args.seat + 1) wants) wants (λ page inside. inside)));
    }

pub returns-clause-came : goal.returns-clause-came
returns-clause-came g c = record {
  keeps =
      let came = c.in_ok-bring.ensures.shape ∙ ap (λ (x : Activity). with_other_pool x c.bring.new.self.reach.pool) c.in_ok-keep_limit.ensures.kept.0 in
      record { asks = c.bring.ensures.asks; parts = subst (λ (x : Activity). KeepsParts c.args.self.now x 0) (sym came) (keeps-pool c.args.self.now c.bring.new.self.reach.pool) };
  on = search rules;
  over = tt;
  no_limit = tt;
  step = λ committed order is follows.
      let a = c.args.self.now in let new = c.bring.new.self in
      let counts = tally_counts c.args.tally.now in let begins = instruction_in a c.args.seat committed order counts in
      let to = is-to-serve a c.args.seat c.args.access (wants_of c.touch_of-touch.result) c.touch_of-touch.ensures.sound c.requires.can.taken c.requires.can.selected c.requires.shut
      c.touch_of-touch.ensures.lines committed follows in
      let same = c.in_ok-keep_limit.ensures.kept.0 in
      let fetched : IsFetched a committed order (pages_wanted (wants_of c.touch_of-touch.result)) c.args.tally.now.pages new.reach.pool c.bring.new.tally.pages =
      subst (λ (x : Activity). IsClean x.reach.directory x.reach.pool committed → IsFetched x committed order (pages_wanted (wants_of c.touch_of-touch.result)) c.args.tally.now.pages new.reach.pool c.bring.new.tally.pages)
      same (c.in_ok-bring.ensures.brings.fetched.fetched committed order is) follows.kept.clean in subst
      (λ (t : Tally). IsPrepared begins new c.args.seat c.touch_of-touch.result c.refused-refused.result committed order (record (tally_counts t) { locks = t.locks + (c.from.result + c.from-2.result) }))
      (sym c.bring.ensures.counts.rest)
      (prepared-so a c.args.seat committed order counts c.touch_of-touch.result to.0 to.1 c.touch_of-touch.ensures.wanted c.in_ok-keep_limit.ensures.kept.1 new.reach.pool c.bring.new.tally.pages
      fetched new c.refused-refused.result c.from.result c.from-2.result (c.in_ok-bring.ensures.shape ∙ ap (λ (x : Activity). with_other_pool x new.reach.pool) same) c.refused-refused.ensures
      c.from.ensures c.from-2.ensures);
}

pub refused-refused-requires-clause-pages : goal.refused-refused-requires-clause-pages
refused-refused-requires-clause-pages g c =
    let came = c.in_ok-bring.ensures.shape ∙ ap (λ (x : Activity). with_other_pool x c.bring.new.self.reach.pool) c.in_ok-keep_limit.ensures.kept.0 in
    subst (λ (x : Activity). AreWithin (page_count x.reach.directory) (wants_of c.touch_of-touch.result)) (sym came) c.touch_of-touch.ensures.wanted.within

pub refused-refused-requires-clause-seat : goal.refused-refused-requires-clause-seat
refused-refused-requires-clause-seat g c = taken-below c.args.self.now.seating c.touch_of-touch.ensures.sound.seating c.args.seat c.requires.can.taken
