use Rattle.romp_asm.proofs.Common.{◌≡◌, ◌≤◌, ◌*◌, ◌^◌, ℕ, List, take, found_in, label_place, AreAlone, total_size, false}
use Rattle.romp_asm.proofs.value.labels_of.Given as goal

abbrev pub invariant-loop-index : goal.invariant-loop-index
invariant-loop-index l = record {
  table : (word : List ℕ) → found_in l.labels word ≡ label_place (take l.index l.statements) word;
  alone : l.repeats ≡ false → AreAlone l.labels l.statements l.index;
  address : l.address ≡ total_size (take l.index l.statements);
  small : total_size (take l.index l.statements) ≤ l.index * 2 ^ 32;
}
