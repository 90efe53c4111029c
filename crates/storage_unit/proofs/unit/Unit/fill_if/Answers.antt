use Rattle.storage_unit.proofs.Lemmas.{List, ℕ, length, sym, ◌∙◌, ap, subst, Option, reach_of, FitsFrom, IsOpenSpot, open-long, open-part, open-room}
use Rattle.std.specs.Option.{IfSome}
use Rattle.flat_machine.specs.Effect.{filled}
use Rattle.storage_unit.proofs.unit.Unit.fill_if.Goals.{In-Some}
use Rattle.storage_unit.proofs.unit.Unit.fill_if.Goals as goal

opened : (c : In-Some) → IsOpenSpot (reach_of c.args.self.now) c.args.wants.now c.in-Some.spot
opened c = subst (λ (o : Option ℕ). IfSome o (IsOpenSpot (reach_of c.args.self.now) c.args.wants.now)) c.in-Some.is c.requires.open

pub spot_part-part-requires : goal.spot_part-part-requires
spot_part-part-requires c = open-room c.args.self.now c.args.wants.now c.in-Some.spot c.requires.fits.some (opened (goal.at.spot_part-part-requires c).In-Some) c.from.result c.from.ensures

pub fill-requires : goal.fill-requires
fill-requires c =
    subst (λ n. FitsFrom n c.args.to)
    (sym (ap length c.spot_part-part.ensures ∙ open-long c.args.self.now c.args.wants.now c.in-Some.spot c.requires.fits.some (opened (goal.at.fill-requires c).In-Some) c.from.result c.from.ensures ∙ c.from.ensures))
    c.requires.fits

pub returns : goal.returns
returns c =
    let opens = opened (goal.at.returns c).In-Some in
    record {
      permitted = λ did. opens.opens.permitted;
      filled =
          c.fill.ensures
          ∙ ap (λ (list : List ℕ). filled c.args.to c.args.sign list c.args.regs.now)
          (c.spot_part-part.ensures ∙ open-part c.args.self.now c.args.wants.now c.in-Some.spot c.requires.fits.some opens c.from.result c.from.ensures);
    }
