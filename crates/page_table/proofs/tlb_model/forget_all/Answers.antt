use Rattle.page_table.proofs.Common.{arith, ways_without}
use Rattle.page_table.proofs.ClearLemmas.{mapped-more, mapped-all}
use Rattle.page_table.proofs.tlb_model.forget_all.Goals as goal

pub loop-ways-preserved : goal.loop-ways-preserved
loop-ways-preserved c = mapped-more (ways_without c.args.frame) c.args.classes.now c.loop-ways.classes c.loop-ways.ways-index c.loop-ways.invariant c.forget.new.self _ c.loop-ways-test.true (omega arith) c.forget.ensures

pub returns : goal.returns
returns c = mapped-all (ways_without c.args.frame) c.args.classes.now c.loop-ways.classes c.loop-ways.ways-index c.loop-ways.invariant c.loop-ways-test.false
