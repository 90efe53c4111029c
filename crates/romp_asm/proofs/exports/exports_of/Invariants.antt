use Rattle.romp_asm.proofs.Common.{take, AreExports}
use Rattle.romp_asm.proofs.exports.exports_of.Given as goal

abbrev pub invariant-loop-source : goal.invariant-loop-source
invariant-loop-source l = AreExports l.exports (take l.source l.sources)
