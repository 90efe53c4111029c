use Rattle.lines.proofs.Common.{common_steps, arith, refl, sym, nat_tests}
use Rattle.lines.proofs.LegalLemmas.{legal-none, fault-not_legal}
use Rattle.lines.proofs.KeptLemmas.{kept-filled}
use Rattle.lines.proofs.line_geometry.Directory.new.Goals as goal

pub invariant_of-result : goal.invariant_of-result
invariant_of-result c = rw c.filled_up.ensures (kept-filled c.args.page c.args.segments.now (legal-none c.args.segments.now (sym c.in-None.ensures)))

pub returns-in-Some-clause-legal : goal.returns-in-Some-clause-legal
returns-in-Some-clause-legal c = grind (arith, nat_tests, fault-not_legal)

pub returns-in-None-clause-legal : goal.returns-in-None-clause-legal
returns-in-None-clause-legal c = (λ ok. legal-none c.args.segments.now (sym c.in-None.ensures), λ legal. refl)

pub returns-in-None-clause-value : goal.returns-in-None-clause-value
returns-in-None-clause-value c = grind (arith, common_steps)
