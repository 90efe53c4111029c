use Rattle.serial_audit.proofs.Common.{◌≡◌, ◌-◌, length, Some, byte_count, after, touches}
use Rattle.serial_audit.proofs.traced_run.run_traced.Given as goal

abbrev pub invariant-loop-step : goal.invariant-loop-step
invariant-loop-step l = record {
  state : after l.program l.fn.args (record { directory = l.directory; bytes = l.fn.store }) (l.step - 1) ≡ Some l.plain;
  private : length l.plain.private ≡ 16384;
  store : length l.plain.store ≡ byte_count l.directory;
  touches : l.touches.items ≡ touches (record { program = l.program; args = l.fn.args }) (record { directory = l.directory; bytes = l.fn.store }) (l.step - 1);
}
