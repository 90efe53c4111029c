-- The names that most proofs cite, passed on from one place. Declares nothing.
pub use Rattle.std.proofs.Common.{Bool, IsSome, List, [], ap, append_assoc, arith, drop, false, get_or, inl, inr, length, length-append, refl, replicate, rules, slice_index, slice_set, subst, suc, sym, take, true, zero, ℕ, ◌%◌, ◌*◌, ◌++◌, ◌+◌, ◌-◌, ◌<◌, ◌^◌, ◌∙◌, ◌∷◌, ◌≡◌, ◌≤◌, ◌⊎◌, ⊎_elim}
pub use Rattle.std.proofs.lemmas.Bool.{cases_eq, cases_lt, cases_Bool}
pub use Rattle.std.proofs.lemmas.Bool.Decides.{nat_tests}
pub use Rattle.std.proofs.lemmas.List.{append-nil, drop-drop, drop-set-lt, drop_at, get_or-drop, get_or-replicate, get_or-set_same, get_or-take, length-drop, length-replicate, length-set, length-take, length-take-le, take-append-drop, take-set-le, take-take, take_all, take_at, take_rest, drop-take, places, nil_from_length}
pub use Rattle.std.proofs.lemmas.List.Elements.{All-append, All-cons, All-drop, All-head, All-nil, All-replicate, All-tail, All-take}
pub use Rattle.std.specs.Prelude.{All, IfSome, None, Option, Some, fold, nat_le, nat_lt, unwrap_or, ◌&&◌, ◌==◌, Err, IfOk, IsTrue, Ok, Result, if◌then◌else◌, slice_get, ◌≢◌, OnOk, is_some, slice_range, slice_index_or, ◌/◌}
pub use Rattle.store.specs.Below.{A, B, CountsWrite, Failed, ForSome, Ghosts, Header, IsSure, PageSize, Torn, Which, Writes, bank_at, big_bytes, big_number, bytes_at, entry_bytes, header_of, home_at, line_bytes, line_count, number_at, option_map, option_or, overlaid, page_bytes, total, written, AsksSo, Carries, Deed, Did, DidSome, IsBody, Synced, SyncsBy, Wrote, body_deeds, copy_deeds, gate_deeds, home_deeds, sure_deeds, turn_deeds}
pub use Rattle.byteorder.specs.Numbers.{big_from-take, big_number-reads_back}
pub use Rattle.outside.proofs.Durable.{leaves_held, told_some, torn_first}
pub use Rattle.outside.proofs.Runs.{asks_on, asks_one, calls_none, calls_on, leaves_on, leaves_same, still_told, opened}
pub use Rattle.outside.specs.Runs.{FewerLater, Leaves, OnlyAsks, held_of}
pub use Rattle.lines.proofs.OverlayLemmas.{length-overlaid, overlaid_within, overlaid_before, overlaid_behind}
pub use Rattle.store_format.proofs.Fronts.{later_front, rest_front, same_byte, same_lines, same_number_at, shorter_front}
pub use Rattle.store_format.proofs.Lines.{in_order, least_after, line_at, lines_more, wrong_line-push}
pub use Rattle.store_format.proofs.Padded.{read_is}
pub use Rattle.store_format.proofs.Stores.{Around, area_within, fault_none, not_less, stands_more, stands_same, store_more, store_same, stands_is}
pub use Rattle.store_format.proofs.Walk.{IsSound, follows, has_bank, sound_is}
pub use Rattle.store_format.proofs.Widths.{entries-below, lines-below, lines-within}
pub use Rattle.store_format.specs.Bank.{Area, BankContent, Closed, Faulty, Gate, Holds, HoldsFrom, RecordLine, Sound, Wrong, area_at, area_behind, area_of, bank_held, base_of, count_of, gate_at, gate_if, lined_gate, lines_from, parsed_lines, preceded, record_bytes, wrong_line, bank_of, head_fault, held_number}
unfoldable pub use Rattle.store_format.specs.Bank.{holds_from}
pub use Rattle.store_format.specs.Stands.{Damaged, IsStore, Standing, Stands, home_of, laid, one_more, HasHeader, chosen, standing_by, standing_if}
unfoldable pub use Rattle.store_format.specs.Stands.{stands}
pub use Rattle.store.specs.Held.{HasBody, IsSafe, IsGateShut, is_open, IsMoreBy, OnlyWrites, WritesOnce}
pub use Rattle.store.specs.Inside.{IsWholeBank, begun_count, begun_lines, buffered, kept_of}
pub use Rattle.store.specs.Kept.{BankView, SameShape, StaysWithin, area_end, begun_of, end_of, line_bytes_of, needed_end, bank_place, record_bytes_of, spoilt, with_line, with_record, AreNewest, AreNewestWithin, IsNowhere, newest_place, noted, place_in, newest_over, bank_number, bank_number as number_in}
pub use Rattle.store.specs.Read.{AreRead, IsBank}
pub use Rattle.store.specs.Records.{IsCounted, IsCountedAt, BeginsWithLine, IsLineOf, IsRecordAt, area_bytes, IsFound, ReadsLine, ReadsRecord}
pub use Rattle.store.specs.Tracks.{HoldsOneOf, IsAppended, IsEither, TracksBank, HoldsRecords}
pub use Rattle.store.specs.Turned.{head_bytes, placed, bank_turned}
pub use Rattle.store.specs.declared.redo_journal.Bank.TheInside.{Inside}
pub use Rattle.store.specs.declared.find.Record.{Record}
pub use Rattle.std.proofs.lemmas.Grind.{common_steps, elements}
pub use Rattle.outside.proofs.Torn.{torn_by_written}
pub use Rattle.outside.specs.Moments.{Elapses, LeavesStep, IsDurable, IsOneCall, PrintsNothing, CallsOnce, MayTear}
pub use Rattle.store.specs.Appended.{CountsKept, FailedLeaves, bank_appended, kept_in, IsApart, Appends}
pub use Rattle.store_format.proofs.Elsewhere.{base_behind, behind_bytes, header_held, same_header, stands_alike, store_behind, store_big, store_empty, store_front}
pub use Rattle.store.specs.Committed.{IsSameBut, IsHomeOffset, IsCheckpointOffset, IsCommitOffset, Commits, HoldsCommitted, IsKeptAfter, LeavesCommitted, emptied, number_by_answer, roomy, IsHomeCovered, IsHomed, TornLine, copied, home_line, home_place, store_bytes, IsMoved, IsSame, IsCheckpointed, CopiesLine}
pub use Rattle.store.specs.Chosen.{other, selector_of, IsChosen}
pub use Rattle.store.specs.declared.keep.Kept.{Kept}
pub use Rattle.lines.proofs.WithinLemmas.{byte_count-lines, page-lines}
pub use Rattle.lines.specs.Directory.{Layout, byte_count, page_count}
pub use Rattle.store.specs.declared.open_fault.ReopenFault.{ReopenFault}
pub use Rattle.store.specs.Faults.{IsStoreOpenFault, IsStoreReopenFault}
pub use Rattle.store.specs.KeptStore.{Fits, StoreView, with_begun, store_number}
pub use Rattle.store.specs.Shows.{IsStoreWith, IsFoundAgain, ShownStands, Shows, TracksStore, page_in}
pub use Rattle.std.specs.List.{list_any}
pub use Rattle.store_format.proofs.Checks.{option_or-assoc}
pub use Rattle.std.proofs.lemmas.Option.{slice_get-get_or, get_or_from_slice_get}
pub use Rattle.store.specs.Opened.{NewestLaw, bank_in, IsBankOpenFault, IsBankReopenFault}
pub use Rattle.outside.specs.Durable.{IsWritten}
pub use Rattle.std.proofs.lemmas.Result.{on_ok_weaker, IfOk-weaker, IfErr-weaker}
pub use Rattle.outside.proofs.DeedLemmas.{carries_err, carries_on, cut_behind, did_none, did_on, did_since, since_as, since_on, some_more, some_on}
pub use Rattle.store.proofs.DeedLemmas.{cut, home_gap, home_part, whole}
pub use Rattle.store.specs.Exact.{CommitsDeeds, IsRecordBody, KeepsDeeds, KeepsRecord, KeptAsks, RecordCosts, bytes_written, checkpoint_deeds, homes_written, turn_written}
pub use Rattle.store.specs.Places.{HaveNone, IsClearedAt}
