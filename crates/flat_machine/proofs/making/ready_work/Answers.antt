use Rattle.flat_machine.proofs.Common.{◌+◌, ap, slice_index, sym, ◌∙◌, worked, Work, plan_alone}
use Rattle.flat_machine.specs.Work.{base}
use Rattle.flat_machine.proofs.making.ready_work.Goals as goal

pub returns-in-Some : goal.returns-in-Some
returns-in-Some c =
    let row = c.row_with.result in
    let parts = c.row_with.ensures.parts in
    let does = c.in-Some.ensures.does row.c row.i in
    record {
      value = λ halfword_at r s.
          let after = c.args.iar + row.bytes in
          let work = does.value r s row.b (slice_index r row.b) (slice_index r row.c) (base r row.c) in
          rw (c.in-Some.ensures.works, parts.0, sym parts.2, sym parts.3)
          (sym (does.goes_on row r s after ∙ ap (λ (done : Work). plan_alone (worked r s done) after) work));
      bytes = parts.1;
    }
