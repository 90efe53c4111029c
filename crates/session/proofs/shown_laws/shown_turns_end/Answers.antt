use Rattle.session.proofs.Lemmas.{consistent}
use Rattle.desk_law.proofs.ConsistentLaw.{idle-where-inactive}
use Rattle.desk_law.proofs.TurnCauses.{turns-end-for-cause}
use Rattle.session.proofs.shown_laws.shown_turns_end.Goals as goal

pub returns : goal.returns
returns c = λ s held desk word number limit shown. (
  λ entry here. turns-end-for-cause word limit desk entry (consistent s held desk shown) here,
  (idle-where-inactive word number limit desk (consistent s held desk shown)).1,
)
