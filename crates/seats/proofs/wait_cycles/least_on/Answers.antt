use Rattle.seats.proofs.Lemmas.{arith, sym, least-is}
use Rattle.seats.proofs.wait_cycles.least_on.Goals as goal

-- src/cycle.rt:71:1
pub returns-else-bits-eq0 : goal.returns-else-bits-eq0
returns-else-bits-eq0 c = sym (least-is c.args.bits (omega (arith, c.if-bits-eq0.false)) c.ranges.bits.fits)
