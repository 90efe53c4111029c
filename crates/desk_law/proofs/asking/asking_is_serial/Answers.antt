use Rattle.desk_law.proofs.AskingLaw.{asking_serial}
use Rattle.desk_law.proofs.asking.asking_is_serial.Goals as goal

pub returns : goal.returns
returns c = asking_serial
