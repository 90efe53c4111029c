use Rattle.schedule_replay.proofs.Lemmas.{rules, [], length, refl, begun_told, turn_told, stored_told, happening_lines, end_number, stored_number, last_by, tally_begun, tally_by, tally_stored, arith, common_steps, begin_step, turn_step, checkpoint_step, begin_tells, turn_tells, stored_tells, went_quietly}
use Rattle.desk.specs.declared.event.Event.TheVariants as event
use Rattle.schedule_replay.proofs.quietly.answer.Goals as goal

pub returns-in-Begin : goal.returns-in-Begin
returns-in-Begin g c = record {
  kept = first_of (search rules, grind (arith, common_steps));
  went =
      λ start sure shows.
      let S = g.S.Supervisor in let L = g.met.S.Supervisor in let at = (S.told c.args.desk.now).fixed in
      let w = c.args.outside.now in let program = c.in-Begin.program in let last = c.args.last.now.items in
      went_quietly S g.W.Outside g.met.W.Outside.fewer_later at.programs at.opened c.args.event (event.Begin program c.in-Begin.args) (happening_lines [] 0 (begun_told program c.begin.result)) start c.begin.new.self w w last last last c.tally_of_begin.result (tally_begun c.begin.result) c.in-Begin.is refl c.tally_of_begin.ensures
      (begin_step S g.W.Outside [] at.programs L.shown_told program c.in-Begin.args c.begin.result start c.args.desk.now c.begin.new.self w sure shows (c.begin.ensures.did _ start shows))
      (begin_tells 0 program c.begin.result last);
}

pub returns-in-Turn : goal.returns-in-Turn
returns-in-Turn g c = record {
  kept = first_of (search rules, grind (arith, common_steps));
  went =
      λ start sure shows.
      let S = g.S.Supervisor in let turn = c.turn-turn in let printed = (S.told turn.new.self).printed in
      let at = (S.told c.args.desk.now).fixed in let ends = turn.result.end in let activation = c.in-Turn.activation in
      let last = c.args.last.now.items in
      went_quietly S g.W.Outside g.met.W.Outside.fewer_later at.programs at.opened c.args.event (event.Turn activation c.in-Turn.limit) (happening_lines [] (end_number ends) (turn_told activation turn.result printed)) start turn.new.self c.args.outside.now turn.new.outside last c.keep_printed.new.last.items (last_by ends printed last) c.tally_of_turn.result (tally_by ends (length turn.result.cycles.items)) c.in-Turn.is c.keep_printed.ensures c.tally_of_turn.ensures
      (turn_step S g.W.Outside [] at.programs at.opened start turn.new.self c.args.outside.now turn.new.outside activation c.in-Turn.limit turn.result printed (turn.ensures.did start sure shows) turn.ensures.writes turn.ensures.failed)
      (turn_tells (end_number ends) activation turn.result ends printed last);
}

pub returns-in-Checkpoint : goal.returns-in-Checkpoint
returns-in-Checkpoint g c = record {
  kept = first_of (search rules, grind (arith, common_steps));
  went =
      λ start sure shows.
      let S = g.S.Supervisor in let stored = c.checkpoint in let at = (S.told c.args.desk.now).fixed in
      let last = c.args.last.now.items in
      went_quietly S g.W.Outside g.met.W.Outside.fewer_later at.programs at.opened c.args.event event.Checkpoint (happening_lines [] (stored_number stored.result) (stored_told stored.result)) start stored.new.self c.args.outside.now stored.new.outside last last last c.tally_of_checkpoint.result (tally_stored stored.result) c.in-Checkpoint.is refl c.tally_of_checkpoint.ensures
      (checkpoint_step S g.W.Outside [] at.programs at.opened start stored.new.self c.args.outside.now stored.new.outside stored.result (stored.ensures.did start sure shows) stored.ensures.writes stored.ensures.failed)
      (stored_tells (stored_number stored.result) stored.result last);
}

pub begin-requires-clause-program : goal.begin-requires-clause-program
begin-requires-clause-program g c = grind (arith, common_steps)
