use Rattle.serial_audit.proofs.Common.{◌≡◌, ◌-◌, length, Some, byte_count, after}
use Rattle.serial_audit.proofs.run_again.run_to_commit.Given as goal

abbrev pub invariant-loop-row : goal.invariant-loop-row
invariant-loop-row l = record {
  state : after l.program l.fn.args (record { directory = l.directory; bytes = l.fn.store }) (l._row - 1) ≡ Some l.plain;
  private : length l.plain.private ≡ 16384;
  store : length l.plain.store ≡ byte_count l.directory;
}
