use Rattle.desk_law.proofs.HeadlineLemmas.{doubt_is_whole}
use Rattle.desk_law.proofs.run_law.a_doubt_leaves_all.Goals as goal

pub returns : goal.returns
returns c = doubt_is_whole
