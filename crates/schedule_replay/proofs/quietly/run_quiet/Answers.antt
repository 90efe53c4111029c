use Rattle.schedule_replay.proofs.Lemmas.{rules, ◌≡◌, [], ◌+◌, take, drop, refl, arith, append-nil, ◌∙◌, Ok, Some, None, take-append-drop, take_all, ap, Fixed, calls_none, calls_on, Begin, event_lines, common_steps, answered_all, answered_none, answered_more, shut_asked, shut_unasked, ran_nothing, ran_next_quietly, tells_nothing}
use Rattle.schedule_replay.specs.declared.events.Going.TheVariants as going
use Rattle.schedule_replay.proofs.quietly.run_quiet.Goals as goal

pub returns-in-None : goal.returns-in-None
returns-in-None g c = record {
  runs =
      λ start sure shows.
      let S = g.S.Supervisor in let now = c.loop-event.invariant in let old = c.args.desk.now in
      let so_far = now.ran start sure shows in
      let it = ran_next_quietly S g.W.Outside g.met.W.Outside.fewer_later (S.told old).fixed.programs (S.told old).fixed.opened c.args.events.now c.loop-event.event-index (Begin 0 []) c.loop-event-test.true start c.loop-event.desk c.answer.new.desk c.args.outside.now c.loop-event.outside c.answer.new.outside c.loop-event.last.items c.answer.new.last.items (record { commits = c.loop-event.commits; rollbacks = c.loop-event.rollbacks }) None
      (now.still (g.met.S.Supervisor.shown_told old _ start shows).still_open) (ap (λ (fixed : Fixed). fixed.programs) now.answered.tells.fixed) (ap (λ (fixed : Fixed). fixed.opened) now.answered.tells.fixed) now.calls c.answer.ensures.kept.calls so_far.0 so_far.1 c.in-None.ensures.went in
      record {
        front = take (c.loop-event.event-index + 1) c.args.events.now;
        rest = drop (c.loop-event.event-index + 1) c.args.events.now;
        whole = take-append-drop (c.loop-event.event-index + 1) c.args.events.now;
        ran = it.0;
        tells = tt;
        closed = c.in-None.ensures.kept.closed;
        all = λ no. absurd (cc);
      };
  goes = first_of (search rules, grind (arith, common_steps));
  shut = λ was. shut_asked c.args.events.now c.loop-event.event-index going.Closed c.loop-event-test.true refl;
  calls = calls_on g.W.Outside g.met.W.Outside.fewer_later c.args.outside.now c.loop-event.outside c.answer.new.outside c.loop-event.invariant.calls.time c.answer.ensures.kept.calls.time c.loop-event.invariant.calls c.answer.ensures.kept.calls;
  answered =
      let S = g.S.Supervisor in let later = g.met.W.Outside.fewer_later in
      answered_all S g.W.Outside later c.args.events.now (c.loop-event.event-index + 1) c.args.desk.now c.answer.new.desk c.args.outside.now c.answer.new.outside (Ok 0)
      (answered_more S g.W.Outside later c.args.events.now c.loop-event.event-index (Begin 0 []) c.loop-event-test.true c.args.desk.now c.loop-event.desk c.args.outside.now c.loop-event.outside c.answer.new.desk c.answer.new.outside (Ok 0) c.loop-event.invariant.answered c.answer.ensures.kept.answered);
}

pub returns : goal.returns
returns g c = record {
  runs =
      λ start sure shows.
      let L = g.met.S.Supervisor in let now = c.loop-event.invariant in let it = now.ran start sure shows in
      record {
        front = take c.loop-event.event-index c.args.events.now;
        rest = [];
        whole = append-nil (take c.loop-event.event-index c.args.events.now) ∙ take_all c.loop-event.event-index c.args.events.now c.loop-event-test.false;
        ran = it.0;
        tells = it.1;
        closed = now.still (L.shown_told c.args.desk.now _ start shows).still_open;
        all = λ still. refl;
      };
  goes = first_of (search rules, grind (arith, common_steps));
  shut = λ was. shut_unasked c.args.events.now c.loop-event.event-index (c.loop-event.invariant.shut was).0 c.loop-event-test.false;
  calls = first_of (search rules, grind (arith, common_steps));
  answered = answered_all g.S.Supervisor g.W.Outside g.met.W.Outside.fewer_later c.args.events.now c.loop-event.event-index c.args.desk.now c.loop-event.desk c.args.outside.now c.loop-event.outside (Ok 0) c.loop-event.invariant.answered;
}

pub loop-event-init : goal.loop-event-init
loop-event-init g c =
    let S = g.S.Supervisor in let G = g.W.Outside in let L = g.met.S.Supervisor in let M = g.met.W.Outside in
    let old = c.args.desk.now in let w = c.args.outside.now in
    record {
      answered = answered_none S G M.fewer_later old w c.requires.ready.bytes;
      calls = calls_none G w;
      still = λ was_open. was_open;
      shut = λ was. (refl, was);
      few = omega arith;
      few_back = omega arith;
      ran = λ start sure shows.
          let it = ran_nothing S G M.fewer_later (S.told old).fixed.programs (S.told old).fixed.opened L.shown_told start old w refl sure shows in
          (it.0, tells_nothing c.clear.new.self.items (event_lines [] (S.told old).fixed.programs (S.told old).fixed.opened it.0.taken start) c.clear.ensures it.1);
    }

pub loop-event-preserved : goal.loop-event-preserved
loop-event-preserved g c =
    let S = g.S.Supervisor in let G = g.W.Outside in let L = g.met.S.Supervisor in let M = g.met.W.Outside in
    let now = c.loop-event.invariant in let old = c.args.desk.now in let mid = c.loop-event.desk in
    let new = c.answer.new.desk in let before = c.args.outside.now in let between = c.loop-event.outside in
    let after = c.answer.new.outside in
    record {
      answered = answered_more S G M.fewer_later c.args.events.now c.loop-event.event-index (Begin 0 []) c.loop-event-test.true old mid before between new after (Ok 0) now.answered c.answer.ensures.kept.answered;
      calls = calls_on G M.fewer_later before between after now.calls.time c.answer.ensures.kept.calls.time now.calls c.answer.ensures.kept.calls;
      still = λ was_open. c.in-Some.ensures.kept.closed;
      shut = λ was. absurd (let no : Some c.in-Some.tally ≡ None = c.in-Some.ensures.kept.shut (now.shut was).1 in cc (no));
      few = omega (arith, now.few, c.in-Some.ensures.kept.small.0);
      few_back = omega (arith, now.few_back, c.in-Some.ensures.kept.small.1);
      ran = λ start sure shows.
          let so_far = now.ran start sure shows in
          ran_next_quietly S G M.fewer_later (S.told old).fixed.programs (S.told old).fixed.opened c.args.events.now c.loop-event.event-index (Begin 0 []) c.loop-event-test.true start mid new before between after c.loop-event.last.items c.answer.new.last.items (record { commits = c.loop-event.commits; rollbacks = c.loop-event.rollbacks }) (Some c.in-Some.tally)
          (now.still (L.shown_told old _ start shows).still_open) (ap (λ (fixed : Fixed). fixed.programs) now.answered.tells.fixed) (ap (λ (fixed : Fixed). fixed.opened) now.answered.tells.fixed) now.calls c.answer.ensures.kept.calls so_far.0 so_far.1 c.in-Some.ensures.went;
    }

pub answer-requires-clause-ready : goal.answer-requires-clause-ready
answer-requires-clause-ready g c = grind (arith, common_steps)
