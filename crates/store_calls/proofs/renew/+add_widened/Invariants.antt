use Rattle.store_calls.proofs.Common.{length}
use Rattle.store_calls.proofs.renew.+add_widened.Given as goal

abbrev pub decreases-add_widened : goal.decreases-add_widened
decreases-add_widened l = length l.segments.now
