-- The lemmas of this crate that several of its functions' proofs cite, passed on from one place. Declares nothing.
pub use Rattle.seats.proofs.Common.{ArrayVec, Bool, Holding, IsSeating, List, Seating, Some, [], ap, append-nil, arith, cases_lt, common_steps, cond, cycle_of, false, filter, filter_more, get_or, get_or_append_left, get_or_push, inl, inr, is_in_conflict, is_on, seat_left, length, lt-ltb, map, map-append, nat_tests, not, number_in, rules, seat_at, seat_waits, subst, sym, take, take_all, take_more, taken, true, waits_in, ℕ, ◌&&◌, ◌++◌, ◌+◌, ◌<◌, ◌==◌, ◌∙◌, ◌∷◌, ◌≡◌, All-set, AreLinesCounted, AreListed, AreOfPage, Ascend, Err, IsFlat, IsOk, IsPermutation, Lines, None, Ok, Option, Request, Result, Want, and_le_r, and_parts, append_assoc, bit_and, cases_Bool, cases_eq, conflicts, cycle-among, cycle-named, eq-eqb, eqb-true, find, found-has, found-passes, get_or-le-sum_by, get_or-map-range_with_len, get_or_default, has, has-range, holders, holds_some, if◌then◌else◌, in_range, insert, is_ok, le-ltb, leads, length-map-range_with_len, length-set, lines_wanted, list_any, ltb-true, nat_lt, ne_eqb, newcomer, next_seat, next_shown, nil_from_length, none-passes, not-true, nothing, numbers_seated, of_page, of_seat, option_map, option_map_or, or_right, places, range_with_len, refl, replicate, row_places, same_lists, seat_of, seated, set, shown_after, shown_cycle, sitter, slice_index_or, slice_set, sum_by-set, vec_len, ◌-◌, ◌≤◌}
pub use Rattle.seats.proofs.RowBits.{marked, unmarked, Leading, all-on, find-within, follows-none, follows-some, leads-more, leads-still, least-is, meets-none, meets-some, next-is, seat-off, seat-on, seats-start, shown-none, shown-some}
pub use Rattle.seats.proofs.ListedLemmas.{has-at, all-none, ascend-insert, insert-moves, listed-at, listed-moved, listed-next, listed-none, none-conflicts, none-counted, none-held, room, some-more}
pub use Rattle.seats.proofs.Kept.{few-taken, kept-left, kept-seated, kept-took, taken-below}
pub use Rattle.seats.proofs.Ascending.{apart, none-free, some-free}
