use Rattle.activations.proofs.Lemmas.{EndsRows, check-named, number_in, Check, row, Activity, program_in, IsSeatSelected, WasAttempted, plain_in, KeepsDesk, ComesOut, KeepsParts, StaysSeated, Ok, instruction_in, HasEnded, tally_counts, IsStepTaken, asks_none, refl, ◌≡◌, arith, sym, subst, keeps-itself, stays-itself, ended-so, took-either, took-stays, keeps-took, keeps-checked, IsNoLimit, row-goes, at-commit}
use Rattle.romp_cpu.specs.declared.cpu.Attempt.{Attempt}
use Rattle.activations.specs.declared.instructions.StepWent.{StepWent}
use Rattle.activations.proofs.activations.Activations.instruct.Goals as goal

pub returns-in_err-serve-clause-came : goal.returns-in_err-serve-clause-came
returns-in_err-serve-clause-came g c = ended-so IsStepTaken c.from_residual.result c.from_residual.ensures.1 c.in_err-serve.ensures.came (λ so. so)

pub returns-in-Went-clause-came : goal.returns-in-Went-clause-came
returns-in-Went-clause-came g c =
    let a = c.args.self.now in let new = c.execute.new.self in
    let took = took-either c.execute.result a new c.args.seat c.in-Went.is c.execute.ensures.went in record {
      keeps = record { asks = asks_none g.W.Outside c.args.outside.now; parts = keeps-took a new c.args.seat took };
      on = record { stays = took-stays a new c.args.seat new.reach.entries c.sound.ensures.sound c.sound-in-Went.ensures.sound c.requires.can.taken took; calm = refl };
      over = tt;
      no_limit = tt;
      step = λ committed order store follows. row-goes a c.args.seat committed order (tally_counts c.args.tally.now) c.sound.ensures.sound c.requires.can.taken c.requires.can.selected follows new took;
    }

pub returns-in_ok-serve-in-Fault-clause-came : goal.returns-in_ok-serve-in-Fault-clause-came
returns-in_ok-serve-in-Fault-clause-came g c =
    let same = (subst (λ (attempt : Attempt). WasAttempted attempt c.args.self.now c.args.seat c.execute.new.self) c.in-Fault.is c.execute.ensures.went).0 in
    let came = c.in_ok-serve-in-Fault.ensures.came in
    subst (λ (a : Activity). ComesOut g.W.Outside c.args.store.now c.args.seat a c.serve-in-Fault.new.self c.args.outside.now c.serve-in-Fault.new.outside c.args.tally.now c.serve-in-Fault.new.tally (Ok StepWent.On) IsStepTaken) same
    (record { keeps = came.keeps; on = came.on; over = tt; no_limit = tt; step = came.step })

pub returns-in_err-serve-in-Fault-clause-came : goal.returns-in_err-serve-in-Fault-clause-came
returns-in_err-serve-in-Fault-clause-came g c =
    let same = (subst (λ (attempt : Attempt). WasAttempted attempt c.args.self.now c.args.seat c.execute.new.self) c.in-Fault.is c.execute.ensures.went).0 in
    subst (λ (a : Activity). ComesOut g.W.Outside c.args.store.now c.args.seat a c.serve-in-Fault.new.self c.args.outside.now c.serve-in-Fault.new.outside c.args.tally.now c.serve-in-Fault.new.tally c.from_residual-in_err-serve-in-Fault.result IsStepTaken) same
    (ended-so IsStepTaken c.from_residual-in_err-serve-in-Fault.result c.from_residual-in_err-serve-in-Fault.ensures.1 c.in_err-serve-in-Fault.ensures.came (λ so. so))

pub returns-in-Commit-clause-came : goal.returns-in-Commit-clause-came
returns-in-Commit-clause-came g c =
    let a = c.args.self.now in let seat = c.args.seat in
    let came = subst (λ (attempt : Attempt). WasAttempted attempt a seat c.execute.new.self) c.in-Commit.is c.execute.ensures.went in record {
      keeps = record { asks = asks_none g.W.Outside c.args.outside.now; parts = subst (λ (x : Activity). KeepsParts a x 0) (sym came.0) (keeps-itself a) };
      on = record { stays = subst (λ (x : Activity). StaysSeated a x seat) (sym came.0) (stays-itself a seat c.requires.can.taken); calm = refl };
      over = tt;
      no_limit = tt;
      step = λ committed order store follows. at-commit a seat committed order (tally_counts c.args.tally.now) c.sound.ensures.sound c.requires.can.taken c.requires.can.selected follows c.execute.new.self came;
    }

pub returns-in-Check : goal.returns-in-Check
returns-in-Check g c =
    let a = c.args.self.now in let counts = tally_counts c.args.tally.now in
    let came = subst (λ (attempt : Attempt). WasAttempted attempt a c.args.seat c.execute.new.self) c.in-Check.is c.execute.ensures.went in
    let parts = keeps-checked a c.execute.new.self c.check.new.self c.args.seat _ came.0 c.check.ensures.shape in record {
      counts = record { cycles = (let fewer = parts.fewer in omega (arith, fewer, c.requires.room.cycles)); tally = record { ran = refl; pages_before = omega arith; pages = omega arith; locks = omega arith } };
      came = record {
        keeps = record { asks = asks_none g.W.Outside c.args.outside.now; parts = parts };
        on = tt;
        over = subst (EndsRows g.W.Outside (number_in c.args.self.now.seating c.args.seat) c.check.new.self c.args.outside.now c.args.outside.now c.args.tally.now c.args.tally.now) (sym c.check.ensures.end)
            (record { disk = refl; waits = tt; checked = check-named a c.execute.new.self c.args.seat c.in-Check.code came; journal = tt; victim = tt });
        no_limit = subst IsNoLimit (sym c.check.ensures.end) tt;
        step = λ committed order store follows.
            subst (λ (x : Activity). HasEnded c.check.result (instruction_in x c.args.seat committed order counts) c.check.new.self committed order counts) came.0
            (c.check.ensures.checked committed order counts (subst (λ (x : Activity). IsSeatSelected x c.args.seat) (sym came.0) c.requires.can.selected) (subst (λ (x : Activity). KeepsDesk x committed) (sym came.0) follows)
            (subst (λ (x : Activity). row (program_in x c.args.seat) x.reach.directory (plain_in x c.args.seat committed) ≡ Check c.in-Check.code) (sym came.0) (came.1 committed follows.kept.long)));
      };
    }
