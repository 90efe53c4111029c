use Rattle.storage_unit.proofs.Lemmas.{List, ℕ, sym, ◌∙◌, ap, subst, Reach, byte_place, Lies, byte_at, bytes_from, bytes_shown, reach_of, nat_tests, arith, answer_of, shown-long, open-lies, open-bytes, refused-stays}
use Rattle.flat_machine.specs.Effect.{filled}
use Rattle.storage_unit.proofs.unit.Unit.fill_at.Goals as goal

pub part_in-part-requires-clause-lies : goal.part_in-part-requires-clause-lies
part_in-part-requires-clause-lies c =
    let unit = c.open.new.self in
    subst (λ n. Lies (reach_of unit) c.args.first n) (sym c.from.ensures) (open-lies unit c.args.wants.now c.args.first c.in-Ok.frame c.in-Ok.ensures.open)

pub fill-requires : goal.fill-requires
fill-requires c = grind (arith, nat_tests, shown-long)

pub returns-in-Ok : goal.returns-in-Ok
returns-in-Ok c =
    let unit = c.open.new.self in
    let wants = c.args.wants.now in
    record {
      answer = sym (ap answer_of c.in-Ok.is) ∙ c.open.ensures.answer;
      state = c.open.ensures.state;
      filled =
          c.fill.ensures
          ∙ ap (λ (list : List ℕ). filled c.args.to c.args.sign list c.args.regs.now)
          (c.part_in-part.ensures ∙ ap (bytes_shown (reach_of unit) (byte_place unit.directory c.args.first)) c.from.ensures
          ∙ open-bytes unit wants c.args.first c.in-Ok.frame c.in-Ok.ensures.open
          ∙ ap (λ (s : Reach). bytes_from (byte_at s) wants.address wants.bytes) c.open.ensures.state);
    }

pub returns-in-Err : goal.returns-in-Err
returns-in-Err c = record {
  answer = sym (ap answer_of c.in-Err.is) ∙ c.open.ensures.answer;
  state = c.open.ensures.state;
  filled = refused-stays c.in-Err.probe _ c.args.regs.now c.in-Err.ensures.refused;
}
