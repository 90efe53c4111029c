use Rattle.console.proofs.Common.{map, take, string_bytes, AreNumbers}
use Rattle.console.proofs.command_words.numbers_of.Given as goal

abbrev pub invariant-loop-word : goal.invariant-loop-word
invariant-loop-word l = AreNumbers (map string_bytes (take l.word-index l.words)) l.numbers.items
