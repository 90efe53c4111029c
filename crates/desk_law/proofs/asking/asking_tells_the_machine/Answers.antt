use Rattle.desk_law.proofs.AskingLaw.{asking_told}
use Rattle.desk_law.proofs.asking.asking_tells_the_machine.Goals as goal

pub returns : goal.returns
returns c = asking_told
