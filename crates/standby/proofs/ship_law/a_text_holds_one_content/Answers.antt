use Rattle.standby.proofs.OneLemmas.{holds_one}
use Rattle.standby.proofs.ship_law.a_text_holds_one_content.Goals as goal

pub returns : goal.returns
returns c = holds_one
