-- A list whose items are mapped one after another.
use Rattle.page_table.proofs.Common.{◌≡◌, ℕ, ◌+◌, ◌<◌, ◌≤◌, List, ◌++◌, length, take, drop, map, slice_index_or, slice_set, take_all, drop_all, append-nil, get_or_default, arith, nat_tests}
use Rattle.std.proofs.lemmas.List.Edits.{map_over_more}

module _ {A : Type 0} (f : A → A) (items now : List A) (at : ℕ) (so_far : now ≡ map f (take at items) ++ drop at items) where
  pub mapped-more : (new other : A) → at < length items → at < length now → new ≡ f (slice_index_or now at other) → slice_set now at new ≡ map f (take (at + 1) items) ++ drop (at + 1) items
  mapped-more new other within stays is = grind (arith, nat_tests, map_over_more, get_or_default)

  pub mapped-all : length items ≤ at → now ≡ map f items
  mapped-all over = grind (arith, nat_tests, take_all, drop_all, append-nil)
