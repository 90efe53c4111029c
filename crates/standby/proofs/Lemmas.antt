-- The lemmas of this crate that several of its functions' proofs cite, passed on from one place. Declares nothing.
pub use Rattle.standby.proofs.BeginLemmas.{before_next, get_or-parted, length-parted, line_below, no_line, part_at, room_for}
pub use Rattle.standby.proofs.Common.{All, All-from_get_or, All-map, All-push, AllFit, AreLines, AsksAndPuts, DiskFault, Done, Err, FlatStore, Followed, Follows, Geometry, Ghosts, HasBytes, Header, IsAlike, IsCounted, IsEither, IsLongAt, IsPacked, AreFirstLines, IsReadFault, IsRecordAt, IsShown, BankView, StoreView, Layout, Leaves, List, Long, MatchOption, None, NotKept, Ok, Option, PageSize, Prints, ShipPrintsBy, PutsAtOnce, Record, RecordLine, Result, ShipLine, ShipRecord, Shipped, Some, Stands, Steps, TracksStore, [], ap, append-nil, append_assoc, area_bytes, arith, asks_none, asks_on, bank_begun, bank_behind, bank_with, begun_of, behind, broken, codes, common_steps, ship_content, decimal, decode_of, drop, due, empty_is, encode_lower, closing_line, feeds, fold, fold-append, get_or, get_or-drop, get_or-map, head_line, held_of, inl, inr, kept_line, laid_by, later, length, length-append, length-drop, length-encode_with, length-map, length-take-le, line_bytes, line_count, line_line, lines_text, lower_digits, map, map-append, most_lines, nat_tests, next, store_number, number_word, parted, prints_none, prints_on, prints_same, prints_stop, prints_unput, put_result, record_bytes, record_bytes_of, record_line, record_of, record_text, records_text, refl, shipped, shows_asks, shows_none, shows_on, slice_get, slice_get-get_or, some_is, stands, subst, sym, take, take-append-drop, take_all, take_more, take_rest, ship_text, told, unwrap_or, with_begun, with_line, with_record, ℕ, ⊎_elim, ◌%◌, ◌*◌, ◌++◌, ◌+◌, ◌-◌, ◌<◌, ◌^◌, ◌∙◌, ◌∷◌, ◌≡◌, ◌≢◌, ◌≤◌}
pub use Rattle.standby.proofs.PartLemmas.{cut_at, decodes, end_is_line, feeds_append, head_is_line, head_parts, hex_word, line_front, line_parts, one_feed, parts_at, record_is_line, record_parts, uncut, word_plain}
pub use Rattle.standby.proofs.PutLemmas.{by_put, goes_none, goes_on, goes_puts, goes_writes, prints_by, quiet_by}
pub use Rattle.standby.proofs.ShipLemmas.{all_more, area_more, later_later, next_is, record_there, records_more, records_rest, records_split, shows_line, still_shown, there_in}
pub use Rattle.standby.proofs.StepLemmas.{either_begun, more_begun, on_ok, sized, step_kept, step_unkept, tracks_begun}
pub use Rattle.standby.proofs.TailLemmas.{at_none, bad_behind, bad_head, bad_here, line_long, lines_more, parted_more, read_count, read_head, record_bad, record_long, record_step, records_step, text_more, text_on, whole_text, wider}
pub use Rattle.standby.proofs.TellLemmas.{ended, follows_none, found_stopped, not_done, so_far_all, so_far_more, so_far_none, so_far_stopped, stopped_early}
