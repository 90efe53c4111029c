use Rattle.storage_unit.proofs.Common.{sym, subst, List, Placed, Pair, IsOfTable, forgotten, of_table-left, arith, common_steps}
use Rattle.storage_unit.proofs.page_moves.clear_frame.Goals as goal

pub forget_page-requires : goal.forget_page-requires
forget_page-requires c = (c.args.table.now.keys, c.in-Some.key.segment, c.requires.of_table, c.in-Some.ensures.alone)

pub returns-in-Some-clause-of_table : goal.returns-in-Some-clause-of_table
returns-in-Some-clause-of_table c =
    subst (λ (classes : List (List Pair)). IsOfTable classes c.leave.new.self.keys) (sym c.forget_page.ensures)
    (subst (λ (table : Placed). IsOfTable (forgotten c.args.buffer.now c.args.frame) table.keys) (sym c.leave.ensures)
    (of_table-left c.args.buffer.now c.args.table.now.keys c.args.frame c.requires.room c.requires.of_table))

pub returns-in_default-clause-table : goal.returns-in_default-clause-table
returns-in_default-clause-table c = grind (arith, common_steps)
