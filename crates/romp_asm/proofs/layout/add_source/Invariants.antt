use Rattle.romp_asm.proofs.Common.{◌++◌, List, take, drop, Statement, AreReadAs, LaidTo}
use Rattle.romp_asm.proofs.layout.add_source.Given as goal

abbrev pub invariant-loop-index : goal.invariant-loop-index
invariant-loop-index l =
    (all before rest named : List Statement) → AreReadAs l.scope l.statements all before named → LaidTo all before (named ++ rest) l.initial.output → LaidTo all (before ++ take l.index named) (drop l.index named ++ rest) l.output
