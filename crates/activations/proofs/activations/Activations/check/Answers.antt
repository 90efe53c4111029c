use Rattle.activations.proofs.Lemmas.{ap, sym, subst, Live, Activity, live_in, ComesToEnd, instruction_in, checked, lives-of}
use Rattle.desk.specs.Instruction as desk
use Rattle.desk.specs.declared.answers.TurnEnd.TheVariants as end
use Rattle.activations.proofs.activations.Activations.check.Goals as goal

pub returns-clause-checked : goal.returns-clause-checked
returns-clause-checked c committed order counts selected follows goes printed =
    let a = c.args.self.now in let seat = c.args.seat in
    let pool = c.roll_back.new.self.reach.pool in
    let was = lives-of c.self.inside c.self.view_is c.self.invariant seat c.is_seat.ensures c.index.result.now c.from.result c.from.ensures c.index.ensures in
    subst (λ (live : Live). ComesToEnd (instruction_in a seat committed order counts) c.roll_back.new.self committed order counts (desk.Checked c.args.code live.cpu.iar)) (sym was)
    (subst (λ (after : Activity). ComesToEnd (instruction_in a seat committed order counts) after committed order counts (desk.Checked c.args.code (live_in a seat).cpu.iar)) (sym c.roll_back.ensures.shape)
    (checked a seat pool c.args.code committed order counts c.requires.taken selected.runner follows goes (c.roll_back.ensures.rolls committed follows.orderly.active follows.kept)))

pub returns-clause-end : goal.returns-clause-end
returns-clause-end c = ap (λ (live : Live). end.Checked c.args.code live.cpu.iar) (lives-of c.self.inside c.self.view_is c.self.invariant c.args.seat c.is_seat.ensures c.index.result.now c.from.result c.from.ensures c.index.ensures)
