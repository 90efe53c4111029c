use Rattle.page_table.proofs.Common.{ℕ, ◌-◌, ◌+◌, List, length, sym, ◌∙◌, ap, before_in, arith, nat_tests}
use Rattle.page_table.proofs.ApartLemmas.{walked-none, walked-one, ends-one, before-here, before-later, before-lead, same-option, other-option}
use Rattle.page_table.proofs.chain.before.Goals as goal

pub returns-in_err-at : goal.returns-in_err-at
returns-in_err-at c = grind (arith, nat_tests, walked-none)

pub returns-then-eq : goal.returns-then-eq
returns-then-eq c = sym (before-lead c.args.next.now (length c.args.next.now) c.args.frame c.args.first (same-option c.args.first c.args.frame (sym c.eq.ensures ∙ c.if-eq.true)) c.requires.apart)

pub returns-then-eq-2 : goal.returns-then-eq-2
returns-then-eq-2 c =
    let after = c.following-after.result in
    let ends = sym (ends-one c.args.next.now (length c.args.next.now) c.loop.counter c.in_ok-at.at c.loop.place after c.in_ok-at.was c.loop-test.true c.following-after.ensures) ∙ c.loop.invariant.ends in
    sym (before-here c.args.next.now (length c.args.next.now - (c.loop.counter + 1)) c.in_ok-at.at c.args.frame after
    (same-option after c.args.frame (sym c.eq-in-loop.ensures ∙ c.if-eq-2.true)) ends)
    ∙ sym (ap (λ (frames : List ℕ). before_in frames c.args.frame)
    (walked-one c.args.next.now (length c.args.next.now) c.loop.counter c.in_ok-at.at c.loop.place after c.in_ok-at.was c.loop-test.true c.following-after.ensures))
    ∙ c.loop.invariant.same

pub loop-preserved : goal.loop-preserved
loop-preserved c =
    let after = c.following-after.result in
    record {
      ends = sym (ends-one c.args.next.now (length c.args.next.now) c.loop.counter c.in_ok-at.at c.loop.place after c.in_ok-at.was c.loop-test.true c.following-after.ensures)
          ∙ c.loop.invariant.ends;
      same = sym (before-later c.args.next.now (length c.args.next.now - (c.loop.counter + 1)) c.in_ok-at.at c.args.frame after
          (other-option after c.args.frame (sym c.eq-in-loop.ensures ∙ c.if-eq-2.false)))
          ∙ sym (ap (λ (frames : List ℕ). before_in frames c.args.frame)
          (walked-one c.args.next.now (length c.args.next.now) c.loop.counter c.in_ok-at.at c.loop.place after c.in_ok-at.was c.loop-test.true c.following-after.ensures))
          ∙ c.loop.invariant.same;
    }
