use Rattle.romp_asm.proofs.Common.{◌≡◌, ◌+◌, ◌≤◌, ◌*◌, ◌^◌, ℕ, List, take, found_in, place_from, AreAlone, total_size, false}
use Rattle.romp_asm.proofs.value.labels_kept.Given as goal

abbrev pub invariant-loop-index : goal.invariant-loop-index
invariant-loop-index l = record {
  table : (word : List ℕ) → found_in l.labels word ≡ place_from 0 l.start (take l.index l.statements) word;
  alone : l.repeats ≡ false → AreAlone l.labels l.statements l.index;
  address : l.address ≡ l.start + total_size (take l.index l.statements);
  small : total_size (take l.index l.statements) ≤ l.index * 2 ^ 32;
}
