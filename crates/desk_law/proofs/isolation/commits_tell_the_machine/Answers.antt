use Rattle.desk_law.proofs.MemoryLaw.{commits-tell-the-machine}
use Rattle.desk_law.proofs.isolation.commits_tell_the_machine.Goals as goal

pub returns : goal.returns
returns c = commits-tell-the-machine
