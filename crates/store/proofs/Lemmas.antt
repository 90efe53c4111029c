-- The lemmas of this crate that several of its functions' proofs cite, passed on from one place. Declares nothing.
pub use Rattle.store.proofs.AppendLemmas.{IsReadied, after, begun_is, doubted, either, fields_tracked, filled_lines, is_begun, length-begun, make_ready, more, one_of, place_is, same, says_room, shut, unwrapped, with_record_is, body_of, length-lines_from}
pub use Rattle.store.proofs.CommitLemmas.{adds_same, answered_by, appended_apart, behind_apart, carried, count_kept, counts_on, either_same, failed_behind, kept_after, leaves_committed, number_kept, roomy_fits, roomy_full, shape_on, two_more, usable_kept}
pub use Rattle.store.proofs.Common.{All, Appends, AreNewest, AreNewestWithin, Bool, Commits, CountsKept, Err, Failed, FailedLeaves, Fits, HasHeader, Header, Holds, HoldsCommitted, HoldsOneOf, HoldsRecords, IfErr-weaker, IfOk, IfOk-weaker, IfSome, Inside, IsApart, IsAppended, IsBank, IsCheckpointed, IsChosen, IsCommitOffset, IsCounted, IsCountedAt, IsHomeCovered, IsEither, IsFound, IsHomed, IsKeptAfter, BeginsWithLine, IsLineOf, IsMoved, IsRecordAt, IsSafe, IsSame, IsSameBut, IsGateShut, IsSome, IsStore, IsStoreReopenFault, IsStoreWith, IsSure, IsTrue, IsWritten, Kept, BankView, StoreView, Layout, Leaves, LeavesStep, List, None, Ok, OnOk, OnlyAsks, OnlyWrites, Option, PageSize, ReadsLine, ReadsRecord, Record, RecordLine, ReopenFault, Result, SameShape, Shows, Some, StaysWithin, Torn, TracksBank, TracksStore, Which, [], ap, area_at, area_end, arith, asks_on, asks_one, bank_appended, bank_at, bank_held, begun_count, begun_lines, begun_of, big_from-take, big_number, bytes_at, common_steps, drop, drop-drop, elements, emptied, end_of, entries-below, entry_bytes, fold, gate_at, gate_if, get_or, get_or-replicate, head_bytes, header_of, held_of, home_at, home_of, in_order, inl, inr, is_open, is_some, kept_in, kept_of, leaves_held, leaves_on, leaves_same, length, length-append, length-drop, length-replicate, length-take-le, line_bytes, line_bytes_of, line_count, lined_gate, lines_from, list_any, nat_tests, needed_end, newest_over, nil_from_length, noted, number_at, on_ok_weaker, one_more, other, overlaid, page-lines, page_bytes, page_count, bank_place, read_is, record_bytes, record_bytes_of, refl, replicate, roomy, rules, selector_of, slice_index, slice_range, slice_set, spoilt, stands, store_bytes, subst, sym, take, told_some, torn_first, total, bank_turned, unwrap_or, with_line, written, wrong_line, wrong_line-push, ℕ, ⊎_elim, ◌%◌, ◌*◌, ◌++◌, ◌+◌, ◌<◌, ◌==◌, ◌^◌, ◌∙◌, ◌∷◌, ◌≡◌, ◌≤◌, AsksSo, B, BankContent, Carries, CommitsDeeds, CopiesLine, Deed, Did, DidSome, IsBody, IsRecordBody, KeepsDeeds, KeepsRecord, KeptAsks, Stands, Synced, SyncsBy, Wrote, append_assoc, bank_number, bank_of, base_of, body_deeds, byte_count, byte_count-lines, carries_err, carries_on, cases_lt, checkpoint_deeds, chosen, copy_deeds, cut, cut_behind, did_none, did_on, did_since, false, gate_deeds, get_or_from_slice_get, home_deeds, home_gap, home_part, home_place, homes_written, laid, nat_lt, newest_place, option_map, placed, since_as, since_on, slice_index_or, some_more, some_on, stands_is, store_number, suc, sure_deeds, true, turn_deeds, turn_written, whole, zero}
pub use Rattle.store.proofs.Compose.{Composed, composed_at_home, composed_more, composed_none, placed_at, shown_page, spliced}
pub use Rattle.store.proofs.FillLemmas.{least_low, line_added, lines_stay, numbered}
pub use Rattle.store.proofs.GateLemmas.{held_is, opened, opened_torn, safe_at, safe_behind, has_body}
pub use Rattle.store.proofs.HomeLemmas.{but_on, end_within, homed_start, step_covered, step_homed, copies_same, homed_gap}
pub use Rattle.store.proofs.MoveLemmas.{IsHeaded, IsThere, covered_same, headed, headed_same, moved, selected_same}
pub use Rattle.store.proofs.Newest.{all_below, held_records, store_agrees}
pub use Rattle.store.proofs.NoteLemmas.{all_left, are_newest, below_in_order, lines_after, newest_law, newest_more, noted_here, read_line, right_here, within-overlaid, wrong_here}
pub use Rattle.store.proofs.ReadLemmas.{Reaches, area_to, first_read, gate_misnumbered, gate_read, is_low, read_closed, read_gate, read_on, read_sound, read_wrong, reads_within, starts}
pub use Rattle.store.proofs.RecordLemmas.{counted, lined}
pub use Rattle.store.proofs.ShowLemmas.{bank_inside, bank_tracked, committed_intact, end_inside, intact_fault, opening_fault, records_intact, reopening_fault, shown_stands, shows_read, store_tracked, sure_on, total_is, shown_store}
pub use Rattle.store.proofs.TurnLemmas.{lines_placed, none_within, placed_order, turned_fields, turned_is}
pub use Rattle.store.proofs.WriteLemmas.{asks_only, follows_asked, held_left, held_since, leaves_step, once, same_held, synced_sure, writes_on, written_held, wrote_nothing}
pub use Rattle.outside.proofs.Runs.{opened_once}
pub use Rattle.store.proofs.PlaceLemmas.{Cleared, all_none, cleared_marked, cleared_more, cleared_unmarked, item_other, none_of, read_false}
