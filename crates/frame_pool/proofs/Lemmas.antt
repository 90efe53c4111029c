-- The lemmas of this crate that several of its functions' proofs cite, passed on from one place. Declares nothing.
pub use Rattle.frame_pool.proofs.Common.{All, All-head, All-tail, List, None, Option, Pool, Some, [], ap, arith, common_steps, pool_emptied, eqb-false, eqb-true, fold, frame_at, get_or_read_under, gone, place_left, length, line_laid, lines_of_bits, marks_at, nat_tests, page_bytes, paging_after, frame_of_page, pool_places, pool_shown, position-Some, range_with_len, slice_index, slice_range, slice_set, subst, sym, unwrap_or, vec_capacity, vec_len, ℕ, ◌*◌, ◌++◌, ◌+◌, ◌<◌, ◌==◌, ◌∙◌, ◌∷◌, ◌≡◌, ◌≢◌, Arrived, Bool, IsChain, IsRing, IsSeen, PageSize, append-nil, append_assoc, cases_eq, drop, drop-drop, false, find, frame_bytes, frame_count, get_or-set_other, get_or-set_same, get_or_past, has, has-filter, if◌then◌else◌, is_apart, is_some, kept_laid, led, length-append, length-drop, length-overlaid, length-set, length-take, length-take-le, line_kept, line_place, line_size, marked_in, not, option_to_list, order_of, overlaid, page_at, page_laid, passing, refl, slice_index_or, suc, take, take-append-drop, take_at, taken_out, true, with_bytes, with_frame_part, with_item, with_part, zero, ⊎_elim, ◌-◌, ◌≤◌}
pub use Rattle.frame_pool.proofs.SoundLemmas.{Leaves, frame_of_store, free-within, leaves, none_room, popped, pushed, range_push, read_frame, some-free, sound-came_by, sound-fresh_by, sound-left_by, absent-taken, apart-cons, apart-push, apart-without, find-in, first-apart, has-push, page_part, taken-fewer, without-fewer}
pub use Rattle.frame_pool.proofs.PoolLemmas.{came-brought, emptied_none, emptied_step, frame-at_resident, frame-part, frame_within, gone_none, is_seen, kept-after_by, left-gone, lines-below, out_there, page_in_frame, pool-seen, gone-from}
pub use Rattle.frame_pool.proofs.ArrivalLemmas.{before-in, chain-led, chain-out, chain-push, last-in, led-long, next-in}
pub use Rattle.frame_pool.proofs.LendLemmas.{lent-bytes, none-lost}
pub use Rattle.frame_pool.proofs.RingLemmas.{before-within, counted, find-first_led, find-none, find-only_led, find-second_led, first-in, last-within, next-within, page-within, rest-in, ring-came, ring-left}
pub use Rattle.frame_pool.specs.declared.arrivals.Arrivals.TheInside.{Inside}
