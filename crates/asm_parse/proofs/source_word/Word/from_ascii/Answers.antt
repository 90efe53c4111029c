use Rattle.asm_parse.proofs.Common.{common_steps, arith}
use Rattle.asm_parse.proofs.source_word.Word.from_ascii.Goals as goal

pub invariant_of-result : goal.invariant_of-result
invariant_of-result c = grind (arith, common_steps)
