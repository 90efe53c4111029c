-- The law is a lemma.
use Rattle.serial_audit.proofs.EnoughLemmas.{trace-enough}
use Rattle.serial_audit.proofs.trace_law.a_trace_is_enough.Goals as goal

pub returns : goal.returns
returns c = trace-enough
