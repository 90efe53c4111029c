use Rattle.romp_asm.proofs.Common.{take, drop, found_in, LaidTo, joined_from}
use Rattle.romp_asm.proofs.layout.assemble_sources.Given as goal

abbrev pub invariant-loop-source : goal.invariant-loop-source
invariant-loop-source l =
    LaidTo (joined_from (found_in l.givers) 0 l.sources) (joined_from (found_in l.givers) 0 (take l.source l.sources)) (joined_from (found_in l.givers) l.source (drop l.source l.sources)) l.output
