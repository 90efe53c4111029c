use Rattle.storage_unit.proofs.Lemmas.{◌+◌, ◌%◌, sym, ◌∙◌, ap, arith, inl, inr, cases_lt, line_bytes, line_of, is_refused, reach_of, nat_tests, same-line}
use Rattle.lines.proofs.LegalLemmas.{legal_bytes}
use Rattle.storage_unit.proofs.FindLemmas.{none-found, first-found}
use Rattle.storage_unit.proofs.unit.Unit.first_refused_from.Goals as goal

pub overflow_add-here : goal.overflow_add-here
overflow_add-here c = grind (arith, nat_tests, legal_bytes)

pub returns-then-is_refused : goal.returns-then-is_refused
returns-then-is_refused c =
    let unit = c.args.self.now in
    sym
    (first-found (λ past. is_refused (reach_of unit) (line_of unit.directory (c.args.place + past)) c.args.store) 0 c.args.bytes c.loop-past.past (omega arith)
    (omega (arith, c.loop-past-test.true, c.from.ensures)) (λ k above below. c.loop-past.invariant k below)
    (ap (λ n. is_refused (reach_of unit) (line_of unit.directory (c.args.place + n)) c.args.store) (sym c.from-in-loop-past.ensures) ∙ sym c.is_refused.ensures ∙ c.if-is_refused.true))

pub returns : goal.returns
returns c = grind (arith, nat_tests, none-found)

pub loop-past-preserved : goal.loop-past-preserved
loop-past-preserved c = λ k below.
    let unit = c.args.self.now in
    elim (cases_lt k c.loop-past.past) [
      | inl before ↦ c.loop-past.invariant k before
      | inr after ↦
          same-line (reach_of unit) c.args.place c.loop-past.past c.rest_of_line-past.result k c.args.store (ap (λ n. c.rest_of_line-past.result + (c.args.place + n) % line_bytes unit.directory.page) (sym c.from-in-loop-past.ensures)
          ∙ ap (λ s. c.rest_of_line-past.result + (c.args.place + c.from-in-loop-past.result) % line_bytes s) (sym c.page.ensures) ∙ c.rest_of_line-past.ensures.value ∙ ap (λ s. line_bytes s) c.page.ensures) after (omega (arith, below, c.from-in-loop-past.ensures))
          ∙ ap (λ n. is_refused (reach_of unit) (line_of unit.directory (c.args.place + n)) c.args.store) (sym c.from-in-loop-past.ensures)
          ∙ sym c.is_refused.ensures ∙ c.if-is_refused.false
    ]
