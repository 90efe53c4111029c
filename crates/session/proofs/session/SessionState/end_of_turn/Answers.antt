use Rattle.session.proofs.Lemmas.{common_steps, rules, ℕ, arith, sym, ◌∙◌, subst, sure_on, few-taken, seat-found, TurnEnd, FailsCounted, turn_fails, activity, order_of, IfWaits, IfJournal, IfVictim, IsEndOfRows, store_number, TellsNumber, LeavesStore, Told, ToldAfterEnd, session_told, refl, number_in, asks_none, total, leaves-since, told-stored, commit-told, rows-counted, rows-number}
use Rattle.store.proofs.WriteLemmas.{asks_only, writes_on}
use Rattle.session.proofs.TurnLemmas.{idle, ended, committed, nothing-counted, sound-ran, over-ran, store-over}
use Rattle.session.proofs.session.SessionState.end_of_turn.Goals as goal

pub run-requires-clause-can : goal.run-requires-clause-can
run-requires-clause-can g c = record { directory = c.requires.sound.directory; usable = c.requires.sound.usable c.requires.open; room = c.requires.bytes }

pub run-requires-clause-taken : goal.run-requires-clause-taken
run-requires-clause-taken g c = (seat-found (activity c.args.self.now).seating c.requires.sound.running.sound.seating c.args.activation c.in-Some.seat (sym c.seat_of.ensures ∙ c.in-Some.is)).0

pub run-requires-clause-cycles : goal.run-requires-clause-cycles
run-requires-clause-cycles g c = grind (arith, c.requires.cycles, (few-taken (activity c.args.self.now).seating c.requires.sound.running.sound.seating))

pub returns-in_default : goal.returns-in_default
returns-in_default g c = record {
  sound = first_of (search rules, grind (arith, common_steps));
  only = first_of (search rules, grind (arith, common_steps));
  writes = first_of (search rules, grind (arith, common_steps));
  turned = first_of (search rules, grind (arith, common_steps));
  idle = first_of (search rules, grind (arith, common_steps));
  ends = first_of (search rules, grind (arith, common_steps));
  told = first_of (search rules, grind (arith, common_steps));
  stored = first_of (search rules, grind (arith, common_steps));
  failed = first_of (search rules, grind (arith, common_steps));
  went =
      λ sure over.
      idle g.W.Outside g.met.W.Outside.fewer_later c.args.self.now c.requires.sound c.args.activation c.args.limit c.args.outside.now c.args.outside.now sure over (asks_none g.W.Outside c.args.outside.now)
      c.args.tally.now (nothing-counted c.args.tally.now c.requires.tally c.requires.cycles) (sym c.seat_of.ensures ∙ c.in_default.is);
}

pub returns-in-Err : goal.returns-in-Err
returns-in-Err g c = record {
  sound = sound-ran c.args.self.now c.run.new.self c.args.limit c.requires.sound c.requires.limit c.requires.turns c.requires.rows c.sound.ensures c.run.ensures.keeps.parts;
  only = asks_only g.W.Outside c.args.outside.now c.run.new.outside c.run.ensures.keeps.asks;
  writes = first_of (search rules, grind (arith, common_steps));
  turned = first_of (search rules, grind (arith, common_steps));
  idle = first_of (search rules, grind (arith, common_steps));
  ends =
      let s = c.args.self.now in
      let found = (seat-found (activity s).seating c.requires.sound.running.sound.seating c.args.activation c.in-Some.seat (sym c.seat_of.ensures ∙ c.in-Some.is)).1 in
      let ends = c.in-Err.ensures.over.disk in
      record {
        ran = c.in-Err.ensures.ran.0;
        waits = subst (λ (n : ℕ). IfWaits n c.in-Err.end) found c.in-Err.ensures.over.waits;
        checked = c.in-Err.ensures.over.checked;
        journal = subst (λ (n : ℕ). IfJournal n c.in-Err.end) (c.run.ensures.keeps.parts.most_lines ∙ sym c.requires.sound.most) c.in-Err.ensures.over.journal;
        limited = c.in-Err.ensures.ran.1;
        victim = subst (λ (n : ℕ). IfVictim n c.run.new.tally.cycles.items c.in-Err.end) found c.in-Err.ensures.over.victim;
        pages = λ is. let unread = subst (λ (how : TurnEnd). IsEndOfRows g.W.Outside c.args.outside.now c.run.new.outside c.args.tally.now c.run.new.tally how) is ends in omega (arith, unread.1);
        numbered = rows-number g.W.Outside c.args.outside.now c.run.new.outside c.args.tally.now c.run.new.tally c.in-Err.end ends _ _;
      };
  told = first_of (search rules, grind (arith, common_steps));
  stored = first_of (search rules, grind (arith, common_steps));
  failed = rows-counted g.W.Outside c.args.outside.now c.run.new.outside c.args.tally.now c.run.new.tally c.in-Err.end c.in-Err.ensures.over.disk;
  went =
      λ sure over.
      ended g.W.Outside g.met.W.Outside.fewer_later c.args.self.now c.requires.sound c.args.activation c.args.limit c.args.outside.now c.run.new.outside sure over c.run.ensures.keeps.asks
      c.in-Some.seat (sym c.seat_of.ensures ∙ c.in-Some.is) c.run.new.self c.args.tally.now c.run.new.tally (nothing-counted c.args.tally.now c.requires.tally c.requires.cycles)
      c.in-Err.end c.in-Err.ensures.over.disk c.in-Err.ensures.over.waits (c.in-Err.ensures.turned over.committed (order_of c.args.self.now) (store-over g.W.Outside c.args.self.now c.requires.sound c.args.outside.now over sure) over.follows);
}

pub returns-in-Ok : goal.returns-in-Ok
returns-in-Ok g c = record {
  sound = first_of (search rules, grind (arith, common_steps));
  only = writes_on g.W.Outside g.met.W.Outside.fewer_later c.args.outside.now c.run.new.outside c.commit.new.outside (asks_only g.W.Outside c.args.outside.now c.run.new.outside c.run.ensures.keeps.asks) c.commit.ensures.ends.only;
  writes = first_of (search rules, grind (arith, common_steps));
  turned = first_of (search rules, grind (arith, common_steps));
  idle = first_of (search rules, grind (arith, common_steps));
  ends =
      let s = c.args.self.now in
      let found = (seat-found (activity s).seating c.requires.sound.running.sound.seating c.args.activation c.in-Some.seat (sym c.seat_of.ensures ∙ c.in-Some.is)).1 in
      commit-told c.args.activation c.args.limit _ (store_number s.store) c.commit.new.tally c.commit.result (omega (arith, c.in-Ok.ensures.ran, c.commit.ensures.ends.ran)) c.commit.ensures.ends.end c.commit.ensures.ends.journal
      (subst (λ (n : ℕ). TellsNumber n (store_number s.store) c.commit.result) (c.in-Ok.ensures.on.stays.number ∙ found) c.commit.ensures.ends.numbered);
  told =
      let s = c.args.self.now in let parts = c.run.ensures.keeps.parts in
      let number = c.in-Ok.ensures.on.stays.number ∙ (seat-found (activity s).seating c.requires.sound.running.sound.seating c.args.activation c.in-Some.seat (sym c.seat_of.ensures ∙ c.in-Some.is)).1 in
      subst (λ (n : ℕ). ToldAfterEnd n c.commit.result (session_told s) (session_told c.commit.new.self)) number
      (subst (λ (told : Told). ToldAfterEnd (number_in c.run.new.self.seating c.in-Some.seat) c.commit.result told (session_told c.commit.new.self)) (told-stored s s.store c.run.new.self s.closed s.closed refl parts.programs parts.next refl) c.commit.ensures.told);
  stored =
      let G = g.W.Outside in let s = c.args.self.now in
      let found = (seat-found (activity s).seating c.requires.sound.running.sound.seating c.args.activation c.in-Some.seat (sym c.seat_of.ensures ∙ c.in-Some.is)).1 in
      leaves-since G g.met.W.Outside.fewer_later c.args.activation s.store c.commit.new.self c.args.outside.now c.run.new.outside c.commit.new.outside c.run.ensures.keeps.asks c.in-Ok.ensures.on.calm c.commit.result
      (subst (λ (n : ℕ). LeavesStore G n c.commit.result s.store c.commit.new.self c.run.new.outside c.commit.new.outside) (c.in-Ok.ensures.on.stays.number ∙ found) c.commit.ensures.stored);
  failed = subst (λ (n : ℕ). FailsCounted (turn_fails c.commit.result) n (g.W.Outside.disk_faults c.commit.new.outside)) c.in-Ok.ensures.on.calm c.commit.ensures.ends.failed;
  went =
      λ sure over.
      let G = g.W.Outside in let s = c.args.self.now in let before = c.args.outside.now in
      let at = c.in-Ok.ensures.turned over.committed (order_of s) (store-over G s c.requires.sound before over sure) over.follows in
      let asks = c.run.ensures.keeps.asks in
      committed G g.met.W.Outside.fewer_later s c.requires.sound c.args.activation c.args.limit before c.run.new.outside sure over asks
      c.in-Some.seat (sym c.seat_of.ensures ∙ c.in-Some.is) c.run.new.self c.args.tally.now c.run.new.tally (nothing-counted c.args.tally.now c.requires.tally c.requires.cycles)
      c.run.ensures.keeps.parts c.commit.new.outside c.commit.new.self c.commit.result c.commit.new.tally at c.in-Ok.ensures.on.stays.number c.in-Ok.ensures.on.calm c.commit.ensures.ends.only c.commit.ensures.ends.end
      (c.commit.ensures.went _ (sure_on G g.met.W.Outside.fewer_later before c.run.new.outside sure asks)
      (over-ran G g.met.W.Outside.fewer_later s c.requires.sound c.args.activation c.args.limit before c.run.new.outside sure over asks c.run.new.self at.follows) at);
}

pub commit-requires-clause-sound : goal.commit-requires-clause-sound
commit-requires-clause-sound g c = sound-ran c.args.self.now c.run.new.self c.args.limit c.requires.sound c.requires.limit c.requires.turns c.requires.rows c.sound-in-Ok.ensures c.run.ensures.keeps.parts

pub commit-requires-clause-bytes : goal.commit-requires-clause-bytes
commit-requires-clause-bytes g c = (asks_only g.W.Outside c.args.outside.now c.run.new.outside c.run.ensures.keeps.asks).longer (total c.args.self.now.store.header) c.requires.bytes
