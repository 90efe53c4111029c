use Rattle.serial_audit.proofs.Common.{◌≡◌, ◌++◌, map, drop, All, begun, IsFresh, activation_in}
use Rattle.serial_audit.proofs.index.begins.Given as goal

abbrev pub invariant-loop-event : goal.invariant-loop-event
invariant-loop-event l = record {
  begun : map activation_in l.entries.items ++ begun l.programs (drop l.event-index l.events) ≡ begun l.programs l.events;
  fresh : All IsFresh l.entries.items;
}
