-- The names that most proofs cite, passed on from one place. Declares nothing.
pub use Rattle.std.proofs.Common.{All, Bool, List, None, Some, [], ap, arith, false, inl, inr, length, refl, subst, suc, sym, true, vec_capacity, vec_len, zero, ℕ, ◌*◌, ◌++◌, ◌+◌, ◌<◌, ◌∙◌, ◌∷◌, ◌≡◌, ◌≢◌, ◌≤◌, ◌⊎◌, append_assoc, drop, take, ◌-◌, get_or, ⊎_elim}
pub use Rattle.std.proofs.lemmas.Bool.{and_from, and_parts, cases_eq, cases_lt, eq-eqb, eqb-false, eqb-true, ltb-false, ltb-true, ne_eqb, not_from_false, or_from}
pub use Rattle.std.proofs.lemmas.Bool.Decides.{nat_tests}
pub use Rattle.std.proofs.lemmas.List.{append-nil, drop-drop, get_or-replicate, get_or-set_other, get_or-set_same, get_or_past, get_or_read_under, length-append, length-drop, length-replicate, length-set, length-take, length-take-le, take-append-drop, take_at, with_items_is, get_or-take, take-append-le, take_all}
pub use Rattle.std.proofs.lemmas.List.Elements.{All-from_get_or, All-head, All-tail}
pub use Rattle.std.proofs.lemmas.List.Quantifiers.{position-Some}
pub use Rattle.std.specs.List.{list_any, prefix_len, range_with_len}
pub use Rattle.std.specs.Option.{option_map_or}
pub use Rattle.std.specs.Prelude.{Err, IfSome, IsOk, IsSome, Ok, Option, Result, cond, find, fold, if◌then◌else◌, is_ok, is_some, nat_le, nat_lt, not, option_to_list, position, remove, replicate, slice_index, slice_index_or, slice_range, slice_set, unwrap_or, ◌&&◌, ◌==◌, ◌||◌}
pub use Rattle.lines.specs.LineSets.{IsOfPage, lines_of_bits, union}
unfoldable pub use Rattle.lines.specs.LineSets.{passing}
pub use Rattle.lines.specs.Segments.{page_bytes}
pub use Rattle.lines.specs.declared.line_geometry.PageSize.{PageSize}
pub use Rattle.lines.proofs.SetLemmas.{has-append, has-filter, has-range}
pub use Rattle.lines.specs.Resident.{first_out, taken_out}
pub use Rattle.lines.specs.Sets.{has}
pub use Rattle.lines.proofs.OverlayLemmas.{length-overlaid}
pub use Rattle.lines.specs.Overlay.{overlaid}
pub use Rattle.frame_pool.specs.Places.{CameIn, Places, frame_of_page, goes_out, page_left, place_left, fresh_places, place_page}
pub use Rattle.frame_pool.specs.PlacesView.{pool_places}
pub use Rattle.frame_pool.specs.Pool.{Brought, pool_emptied, frame_at, frame_bytes, gone, paging_after, kept_laid, line_kept, line_laid, page_laid, marked_in, marks_at, page_at, page_out, with_bytes, with_marks, with_room}
pub use Rattle.frame_pool.specs.Seen.{IsSeen}
pub use Rattle.frame_pool.specs.Sizes.{frame_count, line_place, line_size, private_frames}
pub use Rattle.frame_pool.specs.Sound.{IsOfStore, IsPlaced, IsSized, ArePlacesSound, is_apart}
pub use Rattle.frame_pool.specs.Lending.{with_part}
pub use Rattle.frame_pool.specs.PoolLending.{with_frame_part}
pub use Rattle.frame_pool.specs.View.{PoolHasSizes, pool_shown}
pub use Rattle.frame_pool.specs.declared.pool_model.Pool.{Pool}
pub use Rattle.frame_pool.specs.declared.pool.FramePool.TheInside.{Inside}
pub use Rattle.std.proofs.lemmas.Grind.{common_steps, same_number_lists}
pub use Rattle.std.proofs.lemmas.List.Edits.{length-remove, get_or-remove_above}
pub use Rattle.frame_pool.specs.Arrivals.{Arrived, IsChain, led}
pub use Rattle.frame_pool.specs.ArrivalsView.{IsRing, order_of}
pub use Rattle.std.specs.Vec.{with_item, with_items_from}
