use Rattle.outside.proofs.Lemmas.{common_steps, arith, in_order-more}
use Rattle.outside.proofs.memory_screen.MemoryScreen.print.Goals as goal

pub invariant_of-self-2 : goal.invariant_of-self-2
invariant_of-self-2 c = grind (arith, common_steps, in_order-more c.args.self.now.puts.items c.args.at c.args.self.now.printed.items c.args.shown.now c.args.self.now.in_order)
