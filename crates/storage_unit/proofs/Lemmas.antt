-- The lemmas of this crate that several of its functions' proofs cite, passed on from one place. Declares nothing.
pub use Rattle.storage_unit.proofs.AccessLemmas.{begins}
pub use Rattle.storage_unit.proofs.AfterLemmas.{answers-stay, directory-after, lies-after, others-stay, own-located, private-room, range-shown, shows, there-after}
pub use Rattle.storage_unit.proofs.AnswerLemmas.{answered-by, answered-private}
pub use Rattle.storage_unit.proofs.ClearLemmas.{clear-begun, clear-fresh, clear-kept, seat-clear}
pub use Rattle.storage_unit.proofs.Common.{PoolFits, pool_emptied, gone, seen-gone, Access, AreClear, AreOfPages, AreOpened, AreReached, AreReady, AreThere, AreUsed, Authority, Bool, Brought, Fault, FitsFrom, Four, IsOfTable, IsOpenAt, IsOpenSpot, IsSeen, IsReachSound, Key, Lies, List, Located, None, Ok, Option, PageSize, Pair, Placed, Pool, Probe, Reach, Registers, Some, Stays, Tried, Two, Unit, Virtual, after_store, answer_in, answer_of, answered_at, ap, arith, big_number, byte_at, byte_of, bytes_from, bytes_on, bytes_shown, cases_eq, cases_lt, cleared_entry, common_steps, drop, entered, entry_at, grant_of, false, find, first_keys, fold, frame_at, frame_count, get_or-map-range_with_len, get_or-set_other, get_or-set_same, get_or_default, gone-stays, halfword_of, has, if◌then◌else◌, inl, inr, is_absent, is_in_frame, is_kept_from, is_private, is_refused, is_there, key_among, key_in, key_of_page, key_to, keys_of, keys_without, known, leb-true, length, length-append, length-drop, length-map, length-map-range_with_len, length-overlaid, length-replicate, length-set, length-take, lent-part, lets, line_bytes, line_of, lines_of_part, located_by, look_up, marks_at, nat_le, nat_lt, nat_tests, not, of_table-entered, offset_of, on, option_and_then, option_map, option_map_or, overlaid, page_bytes, page_count, page_of, page_of_line, page_out, pages_begun, frame_part, place_at, byte_place, plan, private_frames, private_segment, put_at, range_with_len, reach_of, refl, refuses_byte, replicate, same_number_lists, seat_selected, seat_pages, settled, slice_index, slice_index_or, slice_range, slice_set, some-within, start_of, stored, stored_bytes, stored_bytes-long, subst, sym, take, take-append-drop, take_all, true, unless_absent_at, unless_refused_at, unowned, with_bytes, with_frame_part, with_room, without_frame, ℕ, ◌%◌, ◌&&◌, ◌*◌, ◌++◌, ◌+◌, ◌-◌, ◌/◌, ◌<◌, ◌^◌, ◌∙◌, ◌≡◌, ◌≢◌, ◌≤◌}
pub use Rattle.storage_unit.proofs.CopyLemmas.{found-below, found-some, none-of, part-shown, shown-long, shown-split}
pub use Rattle.storage_unit.proofs.FoundLemmas.{found, found-answer, found-lies}
pub use Rattle.storage_unit.proofs.GatheredLemmas.{gathered-at}
pub use Rattle.storage_unit.proofs.HeldLemmas.{finds-page, finds-private, held-private, held-store, key-at, keys-long, keys-seat, keys-store}
pub use Rattle.storage_unit.proofs.LineLemmas.{lies-one, line-permitted, lines-permitted, lock-fault, page-fault, page-found, second-fault}
pub use Rattle.storage_unit.proofs.OpenedLemmas.{open-after, open-bytes, open-lies, open-long, open-low, open-moved, open-part, open-room, opened-line, opened-more, opened-none, opened-pair, opened-with, opens-when, refused-stays}
pub use Rattle.storage_unit.proofs.PartLemmas.{marked-keys, marked-same, part-long, pool-after}
pub use Rattle.storage_unit.proofs.PlaceLemmas.{Selected, finds-own, finds-shared, lies-on, place-below, place-byte, place-on, private-is, registers-page, selected, shared-is, there-on, under}
pub use Rattle.storage_unit.proofs.PrivateLemmas.{begun-other, first-long, free-at, holds-first, holds-none, keys-bare, keys-more, next-absent, next-free, nones-long, nones-more}
pub use Rattle.storage_unit.proofs.ProbeLemmas.{absent-first, absent-next, none-absent, none-next, private-kept, same-line}
pub use Rattle.storage_unit.proofs.ReadyLemmas.{is-ready, ready-kept, ready-none, ready-selected, ready-with, row-found}
pub use Rattle.storage_unit.proofs.SizeLemmas.{line-in, page-below, page-of-line, rest-on, same-page-on, seat-frame, seat-room}
pub use Rattle.storage_unit.proofs.FitsLemmas.{fits-as, fits-brought, fits-lent, fits-part, fits-settled, fits-stays}
pub use Rattle.storage_unit.proofs.StateLemmas.{emptied-stays, fold-long, frames-held, keys-emptied, keys-gone, keys-room, laid-bytes, marks-none, marks-settled, none-of_table, room-none, room-stays, without-entries, without-keys}
pub use Rattle.storage_unit.proofs.StoreLemmas.{all-private, marked-of_pages, put-then}
pub use Rattle.storage_unit.proofs.UnitLemmas.{unit-sound}
pub use Rattle.storage_unit.proofs.WrittenLemmas.{spot-within, clear-part, ready-part, stored-part}
