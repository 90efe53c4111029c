use Rattle.page_table.proofs.Common.{◌≡◌, ◌≤◌, ℕ, ◌<◌, None, length, drop, get_or, register_with}
use Rattle.page_table.proofs.segment_regs.SegmentRegs.new.Given as goal

-- the windows from here on stand under their registers
abbrev pub invariant-loop-left : goal.invariant-loop-left
invariant-loop-left l = record {
  long : length l.registers ≡ 16;
  few : l.left ≤ length l.windows;
  each : (k : ℕ) → k < 16 → get_or l.registers k None ≡ register_with l.private (drop l.left l.windows) k;
}

abbrev pub decreases-loop-left : goal.decreases-loop-left
decreases-loop-left l = l.left
