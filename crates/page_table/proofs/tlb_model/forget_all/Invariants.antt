use Rattle.page_table.proofs.Common.{◌≡◌, ◌++◌, take, drop, map, ways_without}
use Rattle.page_table.proofs.tlb_model.forget_all.Given as goal

-- the classes so far are without the frame
abbrev pub invariant-loop-ways : goal.invariant-loop-ways
invariant-loop-ways l = l.classes ≡ map (ways_without l.frame) (take l.ways-index l.initial.classes) ++ drop l.ways-index l.initial.classes
