use Rattle.desk.proofs.SerialLaw.{run_serial}
use Rattle.desk.proofs.serial_runs.runs_are_serial.Goals as goal

pub returns : goal.returns
returns c = run_serial
