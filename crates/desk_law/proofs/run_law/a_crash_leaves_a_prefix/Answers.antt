use Rattle.desk_law.proofs.HeadlineLemmas.{left_is_prefix}
use Rattle.desk_law.proofs.run_law.a_crash_leaves_a_prefix.Goals as goal

pub returns : goal.returns
returns c = left_is_prefix
