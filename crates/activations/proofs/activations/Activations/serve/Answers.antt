use Rattle.activations.proofs.Lemmas.{◌+◌, AreWanted, Layout, wants_of, let-on, touch-on, number_in, TurnEnd, Tally, IsInstruction, instruction_in, tally_counts, Result, ap, arith, subst, sym, ◌∙◌, fetch-on, store-on, keeps-all-on, keeps-all-then, handed, ended-by-disk, ended-so, rules}
use Rattle.activations.proofs.activations.Activations.serve.Goals as goal

pub returns-in_err-touch-clause-came : goal.returns-in_err-touch-clause-came
returns-in_err-touch-clause-came g c = ended-so IsInstruction c.from_residual.result c.from_residual.ensures.1 c.in_err-touch.ensures.came (λ so. so)

pub returns-in_err-ask-clause-came : goal.returns-in_err-ask-clause-came
returns-in_err-ask-clause-came g c = record {
  keeps = keeps-all-then g.W.Outside c.args.self.now c.prepare.new.self c.ask.new.self c.args.outside.now c.prepare.new.outside c.prepare.ensures.came.keeps c.ask.ensures.keeps;
  on = search rules;
  over = search rules;
  no_limit = search rules;
  step = λ committed order store follows.
      let begins = instruction_in c.args.self.now c.args.seat committed order (tally_counts c.args.tally.now) in
      let prepared = c.in_ok-touch.ensures.came.step committed order store follows in
      handed (λ (r : Result _ TurnEnd). IsInstruction r begins c.ask.new.self c.args.seat committed order (tally_counts c.ask.new.tally))
      c.from_residual-in_err-ask.result c.in_err-ask.field-0.0 c.from_residual-in_err-ask.ensures.1 (c.in_err-ask.ensures.settled begins prepared.attempt _ committed order prepared.asked);
}

pub returns-in_err-get-clause-came : goal.returns-in_err-get-clause-came
returns-in_err-get-clause-came g c = record {
  keeps = keeps-all-on g.W.Outside g.met.W.Outside.fewer_later c.args.self.now c.ask.new.self c.get.new.self c.args.outside.now c.prepare.new.outside c.get.new.outside
      (keeps-all-then g.W.Outside c.args.self.now c.prepare.new.self c.ask.new.self c.args.outside.now c.prepare.new.outside c.prepare.ensures.came.keeps c.ask.ensures.keeps) c.get.ensures.keeps;
  on = search rules;
  over =
      let asked = ap (λ (tally : Tally). tally.pages) c.ask.ensures.counts.rest in let few = c.prepare.ensures.counts.more in
      ended-by-disk g.W.Outside (number_in c.args.self.now.seating c.args.seat) c.get.new.self c.args.outside.now c.prepare.new.outside c.get.new.outside c.args.tally.now c.ask.new.tally c.get.new.tally
      c.from_residual-in_err-get.result c.in_err-get.field-0.0 c.from_residual-in_err-get.ensures.1 c.in_ok-touch.ensures.came.on.calm (omega (arith, asked, few)) c.in_err-get.ensures.ends;
  no_limit = search rules;
  step = λ committed order store follows.
      let begins = instruction_in c.args.self.now c.args.seat committed order (tally_counts c.args.tally.now) in
      let prepared = c.in_ok-touch.ensures.came.step committed order store follows in
      handed (λ (r : Result _ TurnEnd). IsInstruction r begins c.get.new.self c.args.seat committed order (tally_counts c.get.new.tally))
      c.from_residual-in_err-get.result c.in_err-get.field-0.0 c.from_residual-in_err-get.ensures.1
      (c.in_err-get.ensures.served begins prepared.attempt prepared.next committed order (store-on g.W.Outside g.met.W.Outside.fewer_later c.args.store.now c.args.outside.now c.prepare.new.outside committed c.prepare.ensures.came.keeps.asks store)
      (prepared.asked.number ∙ sym c.in_ok-ask.ensures.stays.seated.number) prepared.goes prepared.lines (c.in_ok-ask.ensures.settled begins prepared.attempt _ committed order prepared.asked));
}

pub returns-clause-came : goal.returns-clause-came
returns-clause-came g c = record {
  keeps = keeps-all-then g.W.Outside c.args.self.now c.get.new.self c.go_on.new.self c.args.outside.now c.get.new.outside
      (keeps-all-on g.W.Outside g.met.W.Outside.fewer_later c.args.self.now c.ask.new.self c.get.new.self c.args.outside.now c.prepare.new.outside c.get.new.outside
      (keeps-all-then g.W.Outside c.args.self.now c.prepare.new.self c.ask.new.self c.args.outside.now c.prepare.new.outside c.prepare.ensures.came.keeps c.ask.ensures.keeps) c.get.ensures.keeps) c.go_on.ensures.parts;
  on = search rules;
  over = tt;
  no_limit = tt;
  step = λ committed order store follows.
      let prepared = c.in_ok-touch.ensures.came.step committed order store follows in
      c.go_on.ensures.went _ committed order (tally_counts c.get.new.tally)
      (c.in_ok-get.ensures.served _ prepared.attempt prepared.next committed order (store-on g.W.Outside g.met.W.Outside.fewer_later c.args.store.now c.args.outside.now c.prepare.new.outside committed c.prepare.ensures.came.keeps.asks store)
      (prepared.asked.number ∙ sym c.in_ok-ask.ensures.stays.seated.number) prepared.goes prepared.lines (c.in_ok-ask.ensures.settled _ prepared.attempt _ committed order prepared.asked));
}

pub get-requires-clause-can : goal.get-requires-clause-can
get-requires-clause-can g c = record {
  fetch = fetch-on c.requires.can.fetch (c.ask.ensures.keeps.directory ∙ c.prepare.ensures.came.keeps.parts.directory) c.prepare.ensures.came.keeps.asks;
  taken = c.in_ok-ask.ensures.stays.seated.taken;
  selected = c.in_ok-ask.ensures.stays.seated.selected (c.in_ok-touch.ensures.came.on.stays.selected c.requires.can.selected);
}

pub get-requires-clause-may : goal.get-requires-clause-may
get-requires-clause-may g c =
    let may = c.in_ok-touch.ensures.may in let still = c.in_ok-ask.ensures.stays in
    let selected = c.in_ok-touch.ensures.came.on.stays.selected c.requires.can.selected in record {
      wanted = subst (λ (d : Layout). AreWanted d (wants_of c.in_ok-touch.touch)) (sym c.ask.ensures.keeps.directory) may.wanted;
      touches = touch-on c.prepare.new.self c.ask.new.self c.args.seat _ c.ask.ensures.keeps.directory selected.runner (still.seated.selected selected).runner still.program still.live still.private may.touches;
      refused = let-on c.prepare.new.self.reach.entries c.ask.new.self.reach.entries (c.args.seat + 1) _ _ still.own may.refused;
    }
