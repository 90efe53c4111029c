use Rattle.outside.proofs.Common.{arith}
use Rattle.outside.proofs.recorded_calls.writes_of.Goals as goal

pub returns : goal.returns
returns c = grind arith
