use Rattle.page_table.proofs.Common.{arith, cleared_entry}
use Rattle.page_table.proofs.ClearLemmas.{mapped-more, mapped-all}
use Rattle.page_table.proofs.page_entries.clear_all.Goals as goal

pub loop-entry-preserved : goal.loop-entry-preserved
loop-entry-preserved c = mapped-more (cleared_entry c.args.tid) c.args.entries.now c.loop-entry.entries c.loop-entry.entry-index c.loop-entry.invariant c.clear_one.new.entry _ c.loop-entry-test.true (omega arith) c.clear_one.ensures

pub returns : goal.returns
returns c = mapped-all (cleared_entry c.args.tid) c.args.entries.now c.loop-entry.entries c.loop-entry.entry-index c.loop-entry.invariant c.loop-entry-test.false
