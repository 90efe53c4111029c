use Rattle.session.proofs.CyclesMet.{cycles-were-met}
use Rattle.session.proofs.shown_laws.cycles_were_met.Goals as goal

pub returns : goal.returns
returns c = cycles-were-met
