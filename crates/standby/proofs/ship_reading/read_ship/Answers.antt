use Rattle.standby.proofs.Lemmas.{bad_head}
use Rattle.standby.proofs.ship_reading.read_ship.Goals as goal

pub returns-in-None : goal.returns-in-None
returns-in-None c = bad_head c.args.text.now c.in-None.ensures
