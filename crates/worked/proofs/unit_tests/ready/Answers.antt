use Rattle.std.proofs.Common.{◌≡◌, ◌∙◌, ap, subst, sym}
use Rattle.store_format.specs.declared.header.Header.{Header}
use Rattle.romp_cpu.specs.Segments.{registers_of_program}
use Rattle.storage_unit.specs.declared.unit_model.Reach.{Reach}
use Rattle.storage_unit.specs.Held.{AreReached}
use Rattle.storage_unit.proofs.UnitLemmas.{program-reached}
use Rattle.worked.proofs.unit_tests.ready.Goals as goal

pub select-requires-clause-registers : goal.select-requires-clause-registers
select-requires-clause-registers g c =
    let same : c.begin.new.self.directory ≡ c.args.directory =
    ap (λ (r : Reach). r.directory) c.begin.ensures ∙ ap (λ (r : Reach). r.directory) c.in_ok-unit.ensures ∙ ap (λ (h : Header). h.directory) c.new.ensures.value in
    subst (λ registers. AreReached c.begin.new.self.directory 0 registers) (sym c.registers_of.ensures)
    (subst (λ directory. AreReached c.begin.new.self.directory 0 (registers_of_program c.args.program.now directory 3840)) same
    (program-reached c.begin.new.self.directory c.args.program.now 0 c.begin.new.self.legal))
