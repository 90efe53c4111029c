use Rattle.page_table.proofs.Common.{find, holds, key_in, chain_from, following, nat_tests, ℕ, ◌-◌, ◌+◌, length, sym, ◌∙◌, ap, cond, Some, refl, arith}
use Rattle.page_table.proofs.ApartLemmas.{walked-none, walked-one}
use Rattle.page_table.proofs.chain.find_along.Goals as goal

pub returns-in_err-frame : goal.returns-in_err-frame
returns-in_err-frame c = grind (arith, nat_tests, walked-none)

pub returns-then-holds : goal.returns-then-holds
returns-then-holds c =
    let rest = find (λ (frame : ℕ). holds c.args.key (key_in c.args.keys.now frame)) (chain_from c.args.next.now (length c.args.next.now - (c.loop.counter + 1)) (following c.args.next.now c.in_ok-frame.frame)) in
    sym (ap (λ b. cond b (Some c.in_ok-frame.frame) rest) (sym c.holds.ensures ∙ c.if-holds.true))
    ∙ sym (ap (find (λ (frame : ℕ). holds c.args.key (key_in c.args.keys.now frame)))
    (walked-one c.args.next.now (length c.args.next.now) c.loop.counter c.in_ok-frame.frame c.loop.place _ c.in_ok-frame.was c.loop-test.true refl))
    ∙ c.loop.invariant

pub loop-preserved : goal.loop-preserved
loop-preserved c = grind (arith, nat_tests, walked-one)
