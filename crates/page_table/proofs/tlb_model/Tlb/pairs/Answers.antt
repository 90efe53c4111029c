use Rattle.page_table.proofs.Common.{arith, common_steps}
use Rattle.page_table.proofs.BufferLemmas.{class-apart}
use Rattle.page_table.proofs.tlb_model.Tlb.pairs.Goals as goal

pub returns-clause-apart : goal.returns-clause-apart
returns-clause-apart c = grind (arith, common_steps, class-apart)
