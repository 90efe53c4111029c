use Rattle.console.proofs.Common.{length}
use Rattle.console.proofs.command_words.+add_segments.Given as goal

abbrev pub decreases-add_segments : goal.decreases-add_segments
decreases-add_segments l = length l.numbers.now
