use Rattle.serial_audit.proofs.Lemmas.{take, HasTurns}
use Rattle.serial_audit.proofs.index.allow_turns.Given as goal

abbrev pub invariant-loop-event : goal.invariant-loop-event
invariant-loop-event l = HasTurns (take l.event-index l.events) l.initial.entries l.entries
