use Rattle.activations.proofs.Lemmas.{activity_of, lives-of, selected-of, sound-selected, sym, subst, Layout, AreSegmentsLegal, IsActivitySound, program-reached, program_in, Live, runs-there, taken-of}
use Rattle.storage_unit.specs.Held.{AreReached}
use Rattle.activations.proofs.activations.Activations.select.Goals as goal

pub select-requires-clause-registers : goal.select-requires-clause-registers
select-requires-clause-registers c =
    let a = activity_of c.self.inside in let taken = taken-of c.self.inside c.self.view_is c.args.seat c.requires.taken in
    let was = runs-there a c.args.seat c.self.invariant taken c.index.result.now c.from.result c.from.ensures c.index.ensures in
    subst (λ (live : Live). AreReached a.reach.directory c.args.seat live.registers) (sym was)
    (subst (AreReached a.reach.directory c.args.seat) (sym (c.self.invariant.set_up c.args.seat taken).registers)
    (program-reached a.reach.directory (program_in a c.args.seat) c.args.seat
    (subst (λ (d : Layout). AreSegmentsLegal d.segments) c.directory.ensures c.segments-segments.ensures.legal)))

pub invariant_of-self : goal.invariant_of-self
invariant_of-self c =
    let runs = lives-of c.self.inside c.self.view_is c.self.invariant c.args.seat c.is_seat.ensures c.index.result.now c.from.result c.from.ensures c.index.ensures in
    subst IsActivitySound (sym (selected-of c.self.inside c.self.view_is c.args.seat c.index.result.now _ runs c.select.ensures)) (sound-selected c.args.self.now c.args.seat (subst IsActivitySound c.self.view_is c.self.invariant))

pub returns-clause-shape : goal.returns-clause-shape
returns-clause-shape c =
    selected-of c.self.inside c.self.view_is c.args.seat c.index.result.now _
    (lives-of c.self.inside c.self.view_is c.self.invariant c.args.seat c.is_seat.ensures c.index.result.now c.from.result c.from.ensures c.index.ensures) c.select.ensures
