use Rattle.storage_unit.specs.Reached as reached
use Rattle.activations.proofs.Lemmas.{IsActivitySound, rules, nat_lt, nat_tests, TurnEnd, begun_of, StoreView, taken-below, unit-sound, Activity, HasWritten, ◌≡◌, ◌≤◌, ◌∙◌, ℕ, false, ap, subst, arith, with-none, never-more, is-record, record-count, record-leaves}
use Rattle.activations.proofs.activations.Activations.record.Goals as goal

-- where so many lines aren't over the most, these aren't
not_over : (most with count lines : ℕ) → nat_lt most with ≡ false → with ≡ count → lines ≡ count → lines ≤ most
not_over most with count lines over same long = grind (arith, nat_tests)

pub record_written-requires-clause-seat : goal.record_written-requires-clause-seat
record_written-requires-clause-seat c = taken-below c.args.self.now.seating (subst IsActivitySound c.self.view_is c.self.invariant).seating c.args.seat c.requires.taken

pub returns-in-Err-clause-journal : goal.returns-in-Err-clause-journal
returns-in-Err-clause-journal c =
    let lines = with-none c.args.self.now c.args.seat (subst IsActivitySound c.self.view_is c.self.invariant) c.requires.taken in
    let over = c.in-Err.ensures.journal.1 in (
      c.in-Err.ensures.journal.0 ∙ ap (λ (count : ℕ). TurnEnd.Journal count c.args.self.now.most_lines) lines,
      omega (arith, over, lines),
    )

pub returns-in-Err-clause-never : goal.returns-in-Err-clause-never
returns-in-Err-clause-never c = λ committed follows.
    let lines = with-none c.args.self.now c.args.seat (subst IsActivitySound c.self.view_is c.self.invariant) c.requires.taken in
    let over = c.in-Err.ensures.journal.1 in
    let few = never-more c.args.self.now c.args.seat (subst IsActivitySound c.self.view_is c.self.invariant) c.requires.taken committed follows in
    absurd (omega (arith, over, lines, few))

pub returns-in-Ok : goal.returns-in-Ok
returns-in-Ok c =
    let a = c.args.self.now in
    let none = ap (λ (store : StoreView). begun_of store.bank) c.record_start.ensures in
    let written = subst (λ (x : Activity). HasWritten x c.args.seat c.record_start.new.self c.record_written.new.store) c.in-Ok.ensures.kept.0 c.record_written.ensures in
    let count = record-count a c.args.seat (subst IsActivitySound c.self.view_is c.self.invariant) c.requires.taken c.record_start.new.self c.record_written.new.store none written in
    record {
      kept = search rules;
      begun = search rules;
      «record» = is-record a c.args.seat (subst IsActivitySound c.self.view_is c.self.invariant) c.requires.taken c.record_start.new.self c.record_written.new.store none written;
      count = count;
      few = not_over c.args.self.now.most_lines _ _ _ c.in-Ok.ensures.kept.1 (with-none a c.args.seat (subst IsActivitySound c.self.view_is c.self.invariant) c.requires.taken) count;
      laid = record-leaves a c.args.seat (subst IsActivitySound c.self.view_is c.self.invariant) c.requires.taken c.record_start.new.self c.record_written.new.store none written (subst (λ (x : Activity). reached.IsReachSound x.reach) c.self.view_is (unit-sound c.self.inside.unit));
      journal = tt;
      rolled = tt;
      unwritten = tt;
      never = search rules;
    }
