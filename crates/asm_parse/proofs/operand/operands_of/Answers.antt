use Rattle.asm_parse.proofs.Lemmas.{common_steps, arith, stopped}
use Rattle.asm_parse.proofs.operand.operands_of.Goals as goal

pub returns-in_default : goal.returns-in_default
returns-in_default c =
    stopped c.loop-sort.operands.items c.args.sorts.now c.loop-sort.sort-index c.loop-sort.left _ c.loop-sort-test.true c.in_default.is c.loop-sort.invariant.so_far

pub loop-sort-preserved : goal.loop-sort-preserved
loop-sort-preserved c = grind (arith, common_steps)
