-- The names that most proofs cite, passed on from one place. Declares nothing.
pub use Rattle.std.proofs.Common.{Bool, ap, arith, false, get_or, get_or-set_other, get_or-set_same, inl, inr, length, map, replicate, subst, sym, take, ℕ, ◌<◌, ◌∙◌, ◌≡◌, append-nil, drop, rules, set, take_all, ◌++◌, ◌-◌, ◌⊎◌, vec_len, w16}
pub use Rattle.std.proofs.lemmas.Bool.{and_cases, and_parts, both_ways, cases_eq, cases_lt, cond-false, eq-eqb, eqb-false, eqb-true, le-ltb, lt-ltb, ltb-true, ne_eqb, not-false, not-true, not_from_false, or_cases, or_left, or_parts, or_right, cases_Bool, and_right}
pub use Rattle.std.proofs.lemmas.List.{drop_more, get_or_append_left, get_or_default, get_or_push, length-replicate, length-set, map-append, same_lists, take_more, append_assoc, get_or-replicate, get_or_past, length_push, nil_from_length, map-id}
pub use Rattle.std.proofs.lemmas.List.Elements.{All-filter, All-get_or, All-head, All-push, All-set, All-tail, filter_more, All-replicate, filter-append}
pub use Rattle.std.specs.List.{AllPairs, range_with_len, flat_map, insert, list_any}
pub use Rattle.std.specs.Option.{ForSome, option_map, option_map_or}
pub use Rattle.arrayvec.specs.ArrayVec.{ArrayVec}
pub use Rattle.seats.specs.Held.{AreWithin, with_want, with_wants, conflicts_in, some_conflict, holds_some, nothing, of_page, together}
pub use Rattle.seats.specs.Holding.{Holding, IsWholeHolding, bits_of_seats, is_in_conflict, no_lines_of, of_seat, taken, with_seat}
pub use Rattle.seats.specs.declared.request.Request.{Request}
pub use Rattle.seats.specs.declared.request.Want.{Want}
pub use Rattle.lines.proofs.CycleLemmas.{cycle-among, cycle-named, found-has, found-passes, none-passes}
pub use Rattle.lines.proofs.SetLemmas.{has-append, has-filter, has-range, in_range, any-at, any-some}
pub use Rattle.lines.specs.Sets.{distinct, has, size, meets}
pub use Rattle.lines.specs.Waits.{shown_cycle, leads, next_shown, shown_after}
pub use Rattle.seats.specs.Rows.{is_on, row_places, waits_in, places}
pub use Rattle.seats.specs.Seating.{IsSeating, Seating, seat_left, newcomer, number_in, numbers_seated, seat_of, seated, sitter, took}
unfoldable pub use Rattle.seats.specs.Seating.{next_seat}
pub use Rattle.seats.specs.Waiting.{AreOfPage, cycle_of, holders, seat_at, seat_waits}
pub use Rattle.seats.specs.declared.seat.Seat.{Seat}
pub use Rattle.std.proofs.lemmas.Bool.Decides.{nat_tests}
pub use Rattle.std.proofs.lemmas.Grind.{common_steps}
pub use Rattle.std.specs.Prelude.{All, List, None, Option, Some, [], cond, filter, find, nat_le, nat_lt, not, refl, slice_index_or, suc, true, zero, ◌&&◌, ◌+◌, ◌==◌, ◌∷◌, ◌≤◌, Err, IsOk, Ok, Result, if◌then◌else◌, is_ok, slice_set, bit_and, bit_or, min, ◌%◌, ◌*◌, ◌^◌, ◌||◌, ◌≢◌}
pub use Rattle.std.proofs.lemmas.List.Folds.{list_any-append, sum_by-replicate}
pub use Rattle.std.proofs.lemmas.List.Sums.{get_or-le-sum_by, sum_by-cons, sum_by-le, sum_by-set, sum_by-append}
pub use Rattle.std.specs.List.Sorted.{IsBinarySearchResult, IsPermutation}
pub use Rattle.lines.proofs.LineSetLemmas.{is_in-where, is_in_where-below, none-bits, of_page-below}
pub use Rattle.lines.specs.LineSets.{IsOfPage, lines_of_bits, union, passing}
unfoldable pub use Rattle.lines.specs.LineSets.{passing}
pub use Rattle.lines.proofs.SizeLemmas.{size-alike, size-apart, size-part, size-range, IsPart}
pub use Rattle.seats.specs.Counted.{AreListed, Ascend, AreLinesCounted}
pub use Rattle.lines.specs.Conflicts.{Lines, both, conflicts}
pub use Rattle.seats.specs.Flat.{flat_lines, lines_wanted, IsFlat}
pub use Rattle.std.specs.Int.{bit_at, trailing_zeros}
pub use Rattle.std.proofs.lemmas.Nat.Bits.{bit_at-lt, bit_at_and, bit_at-zero, bit_at-trailing_zeros, bit_at_set_same, bit_at_set_other}
pub use Rattle.std.proofs.lemmas.List.FromFn.{length-map-range_with_len, get_or-map-range_with_len, length-range_with_len, map-range_with_len_more}
pub use Rattle.std.proofs.lemmas.Nat.{and_le_l, and_le_r}
