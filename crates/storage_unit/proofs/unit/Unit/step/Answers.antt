use Rattle.storage_unit.proofs.Lemmas.{ap, plan, halfword_of, Tried, Reach, byte_at, reach_of, unit-sound}
use Rattle.romp_cpu.specs.Tried.{at, how_went}
use Rattle.storage_unit.proofs.RowLemmas.{attempt-changes, attempt-clean, attempt-seats, attempt-is}
use Rattle.storage_unit.proofs.unit.Unit.step.Goals as goal

pub returns : goal.returns
returns c =
    let unit = c.args.self.now in
    let cpu = at c.args.cpu.now c.args.iar.now in
    let row = plan (halfword_of (byte_at (reach_of unit))) cpu.regs cpu.cs cpu.iar in
    let state = ap (λ (t : Tried Reach). t.state) c.step.ensures.tried in
    let all = c.step.ensures.whole in
    record {
      tried = c.step.ensures.tried;
      row = λ program committed out windows long printed few.
          attempt-is (reach_of unit) (unit-sound unit) program windows cpu committed out printed
          (record { attempt = how_went c.step.result c.step.new.went; cpu = at c.step.new.self c.step.new.iar; state = reach_of c.step.new.storage }) all c.step.ensures.row few;
      kept = attempt-changes (reach_of unit) (unit-sound unit) cpu row all (reach_of c.step.new.storage) state;
      clean = attempt-clean (reach_of unit) (unit-sound unit) cpu row all (reach_of c.step.new.storage) state;
      seats = attempt-seats (reach_of unit) (unit-sound unit) cpu row all (reach_of c.step.new.storage) state;
      few = c.step.ensures.few;
    }
