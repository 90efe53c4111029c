use Rattle.romp_asm.proofs.Common.{take, HasLabels}
use Rattle.romp_asm.proofs.exports.labels_of.Given as goal

abbrev pub invariant-loop-index : goal.invariant-loop-index
invariant-loop-index l = HasLabels l.labels (take l.index l.statements)
