use Rattle.serial_audit.proofs.Common.{◌≡◌, ◌≤◌, length, take, byte_count, AreSound, report_told, Stands}
use Rattle.serial_audit.proofs.auditing.audit_lines.Given as goal

abbrev pub invariant-loop-commit : goal.invariant-loop-commit
invariant-loop-commit l = record {
  sound : AreSound l.job l.opening (report_told (take l.commit-index l.lines));
  stands : Stands l.job l.opening (report_told (take l.commit-index l.lines)) l.progress;
  few : l.progress.commits ≤ l.commit-index;
  whole : length l.progress.store ≡ byte_count l.opening.directory;
}
