-- The names that most proofs cite, passed on from one place. Declares nothing.
pub use Rattle.std.proofs.Common.{Bool, List, None, Option, Some, [], ap, arith, drop, false, inl, inr, length, map, refl, suc, sym, take, true, vec_len, zero, ℕ, ◌%◌, ◌++◌, ◌+◌, ◌-◌, ◌<◌, ◌∙◌, ◌∷◌, ◌≡◌, ◌≢◌, ◌≤◌, ◌⊎◌, All, subst, ◌/◌, get_or}
pub use Rattle.std.proofs.Math.ListN.{get_or-eq_default}
pub use Rattle.std.proofs.lemmas.Bool.{and_parts, and_right, cases_lt, eqb-false, eqb-true, ltb-false, ltb-true, ne_eqb, or_left, or_right, cases_Bool, cases_eq, eq-eqb}
pub use Rattle.std.proofs.lemmas.List.{append-nil, drop_all, get_or-replicate, get_or-set_other, get_or-set_same, get_or_default, get_or_read_under, length-replicate, length-set, take_all, get_or-map, length-map, map-set, same_lists, get_or_past, with_items_is}
pub use Rattle.std.specs.List.{prefix_len, range_with_len}
pub use Rattle.std.specs.Option.{option_eq, option_map_or}
pub use Rattle.std.specs.Prelude.{bit_and, bit_xor, cond, filter, find, nat_eq, not, slice_index_or, slice_set, ◌&&◌, ◌==◌, ◌||◌, IfSome, nat_lt, replicate, option_map, option_to_list, position, if◌then◌else◌, slice_index, ◌^◌}
pub use Rattle.lines.proofs.SetLemmas.{has-filter, in_range}
pub use Rattle.lines.specs.Sets.{distinct, has, size}
pub use Rattle.page_table.specs.Chains.{IsChain, IsChained, before_in, chain_end, chain_from, chain_of, following, hash_of}
pub use Rattle.page_table.specs.Keys.{key_of, key_to}
pub use Rattle.page_table.specs.Placed.{Placed, cleared_entry, holds, key_in, look_up, unowned}
pub use Rattle.page_table.specs.declared.key.Key.{Key}
pub use Rattle.std.proofs.lemmas.Bool.Decides.{nat_tests}
pub use Rattle.std.proofs.lemmas.Grind.{common_steps}
pub use Rattle.std.proofs.lemmas.List.Elements.{All-cons, All-drop, All-filter, All-get_or, All-head, All-nil, All-push, All-same, All-set, All-tail, All-weaker}
pub use Rattle.std.proofs.lemmas.List.Quantifiers.{all_pairs_push, position-Some}
pub use Rattle.page_table.specs.Buffer.{AreApart, ArePlaced, IsOfTable, after_found, after_table, class_of, forgotten, is_pair_of, pair_page, pair_to, pairs_in, remembered, with_newest}
pub use Rattle.page_table.specs.Ways.{AreClasses, pairs_of, unless_of, ways_without}
pub use Rattle.page_table.specs.declared.tlb_model.Pair.{Pair}
pub use Rattle.page_table.specs.declared.tlb_model.Ways.{Ways}
pub use Rattle.page_table.specs.KnownLines.{line_in, with_known_line, known}
pub use Rattle.page_table.specs.Registers.{register_with}
pub use Rattle.page_table.specs.LinePlaces.{block_place}
pub use Rattle.page_table.specs.PageEntries.{owned_by}
pub use Rattle.page_table.specs.declared.lockbit_rules.Authority.{Authority}
