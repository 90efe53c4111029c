use Rattle.romp_cpu.proofs.Common.{register_at, register_of_window, ◌≡◌, ◌<◌, ◌≤◌, ℕ, suc, None, length, get_or}
use Rattle.romp_cpu.proofs.segments.registers_of.Given as goal

-- the windows so far stand under their registers, and nothing stands under those behind
abbrev pub invariant-loop-place : goal.invariant-loop-place
invariant-loop-place l = record {
  few : length l.present.items ≤ l.place;
  each : (k : ℕ) → k < l.place → register_at l.present.items (suc k) ≡ register_of_window l.directory (get_or l.windows k None);
  others : (k : ℕ) → l.place < k → register_at l.present.items k ≡ None;
}
