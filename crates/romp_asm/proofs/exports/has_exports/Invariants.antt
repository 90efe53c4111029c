use Rattle.romp_asm.proofs.Common.{◌≡◌, None, take, AllByRecursion, exported}
use Rattle.romp_asm.proofs.exports.has_exports.Given as goal

abbrev pub invariant-loop-index : goal.invariant-loop-index
invariant-loop-index l = AllByRecursion (λ statement. exported statement.body ≡ None) (take l.index l.statements)
