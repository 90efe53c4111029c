use Rattle.std.specs.Prelude.{◌≡◌, ◌⊎◌, ℕ, ◌*◌, ◌≤◌, ◌<◌, length, None, slice_index_or}
use Rattle.store.proofs.places.clear_page.Given as goal

abbrev pub invariant-loop-line : goal.invariant-loop-line
invariant-loop-line l = record {
  len : length l.items ≡ length l.initial.items;
  none : (k : ℕ) → l.page * 16 ≤ k → k < l.line → slice_index_or l.items k None ≡ None;
  others : (k : ℕ) → (k < l.page * 16) ⊎ (l.line ≤ k) → slice_index_or l.items k None ≡ slice_index_or l.initial.items k None;
}
