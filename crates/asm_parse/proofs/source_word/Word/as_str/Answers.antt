use Rattle.asm_parse.proofs.Common.{arith, common_steps}
use Rattle.std.proofs.lemmas.Str.{IsUtf8-from_ascii}
use Rattle.asm_parse.proofs.source_word.Word.as_str.Goals as goal

pub unreachable-requires : goal.unreachable-requires
unreachable-requires c = grind (arith, common_steps, IsUtf8-from_ascii)
