use Rattle.store_calls.proofs.Common.{ℕ, List, sym, subst, Ok, Err, CommitLine, report_told, status_of_trace, IsTraceFound, IsUntraced, arith, nat_tests}
use Rattle.serial_audit.specs.declared.answer.TraceFault.{TraceFault}
use Rattle.serial_audit.specs.Trace.{IsTraceAnswer}
use Rattle.store_calls.proofs.trace.trace_in.Goals as goal

pub returns-in-Ok : goal.returns-in-Ok
returns-in-Ok c =
    let parts = c.in_ok-opened.opened in
    record {
      bundle = parts.bundle;
      job = parts.job;
      report = parts.report.items;
      opening = parts.opening;
      opened = c.in_ok-opened.ensures.opened;
      told = subst (λ (lines : List CommitLine). IsTraceAnswer parts.job parts.opening (report_told lines) c.args.activation (Ok c.in-Ok.trace)) c.deref.ensures.value c.in-Ok.ensures;
    }

-- why there is none, as a status
untraced : (bytes : List ℕ) (activation : ℕ) (why : TraceFault) → IsTraceFound bytes activation (Err why) → IsUntraced bytes activation (status_of_trace why)
untraced bytes activation why found = grind (arith, nat_tests)

pub returns : goal.returns
returns c =
    let parts = c.in_ok-opened.opened in
    subst (IsUntraced c.args.bytes.now c.args.activation) (sym c.status_of_trace.ensures)
    (untraced c.args.bytes.now c.args.activation c.in-Err.fault (record {
      bundle = parts.bundle;
      job = parts.job;
      report = parts.report.items;
      opening = parts.opening;
      opened = c.in_ok-opened.ensures.opened;
      told = subst (λ (lines : List CommitLine). IsTraceAnswer parts.job parts.opening (report_told lines) c.args.activation (Err c.in-Err.fault)) c.deref.ensures.value c.in-Err.ensures;
    }))
