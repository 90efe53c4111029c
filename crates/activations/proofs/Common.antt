-- The names that most proofs cite, passed on from one place. Declares nothing.
pub use Rattle.std.proofs.Common.{ap, append_assoc, arith, get_or, get_or-set_other, get_or-set_same, inl, inr, length-append, set-set, subst, sym, take, ◌∙◌, rules}
pub use Rattle.std.proofs.lemmas.Bool.{and_from, and_parts, both_ways, cases_lt, eq-eqb, eqb-false, eqb-true, false_from_ne_true, ltb-false, ne_eqb, not-false, not-true, or_cases, or_from, or_left, or_parts, or_right, and_left, cases_Bool, cases_eq, cond_both}
pub use Rattle.std.proofs.Math.Bool.{and-false, and-true, or-false}
pub use Rattle.std.proofs.lemmas.Bool.Decides.{nat_tests}
pub use Rattle.std.proofs.lemmas.Grind.{same_number_lists}
pub use Rattle.std.proofs.lemmas.List.{append-nil, get_or-map, get_or-replicate, get_or_default, get_or_past, get_or_read, length-map, length-replicate, length-set, map-append, nil_from_length, set-get_or, take_all, take_more, length-take, take-append-le, take-take}
pub use Rattle.std.proofs.lemmas.List.Elements.{All-append, All-cons, All-filter, All-from_get_or, All-get_or, All-head, All-nil, All-replicate, All-set, All-tail, filter-append}
pub use Rattle.std.proofs.lemmas.List.Folds.{list_any-append}
pub use Rattle.std.proofs.lemmas.List.FromFn.{get_or-map-range_with_len, length-map-range_with_len, length-range_with_len}
pub use Rattle.std.proofs.lemmas.List.Sums.{sum_by-cons, sum_by-le}
pub use Rattle.std.specs.List.{AllPairs, flat_map, list_any, position_or_len, range_with_len, sum_by}
pub use Rattle.std.specs.Option.{ForSome, option_map, option_map_or}
pub use Rattle.std.specs.Prelude.{All, Bool, Err, IfErr, IsErrAnd, IsSome, List, None, Ok, OnErr, OnOk, Option, Result, Some, [], cond, drop, false, filter, find, fold, if◌then◌else◌, is_some, length, map, nat_le, nat_lt, not, option_to_list, position, refl, remove, replicate, slice_index, slice_index_or, slice_range, slice_set, suc, true, unwrap_or, zero, ℕ, ◌%◌, ◌&&◌, ◌^◌, ◌*◌, ◌++◌, ◌+◌, ◌-◌, ◌/◌, ◌<◌, ◌==◌, ◌||◌, ◌∷◌, ◌≡◌, ◌≢◌, ◌≤◌, ◌⊎◌}
pub use Rattle.arrayvec.specs.ArrayVec.{ArrayVec, array_vec_len}
pub use Rattle.desk.specs.Answers.{ending_told}
pub use Rattle.desk.specs.Desk.{Desk, Active, opened, rolled_back, with_active, written_pages}
pub use Rattle.desk.specs.Holdings.{conflicts_of, wanted, requested, due_to}
pub use Rattle.desk.specs.Instruction.{InFlight, Broken, Checked, Counts, Disk, Ending, Fetched, Fetching, Fine, Going, Journal, Limit, Over, ReadFailed, Turning, Victim, Waits, DiskWord, can't_be_read, contest_ends, fetches, gets, goes_on, granted, lines_within, lines_written, locks_with, lowered, no_counts, refused_pages, refuses, touched_pages, with_grants}
unfoldable pub use Rattle.desk.specs.Instruction.{instruction, turns}
pub use Rattle.desk.specs.Run.{absent_segment, restarted}
pub use Rattle.desk.specs.declared.answers.Begun.{Begun}
pub use Rattle.desk.specs.declared.answers.Cycle.{Cycle}
pub use Rattle.desk.specs.declared.answers.TurnEnd.{TurnEnd}
pub use Rattle.desk_law.proofs.AlikeSets.{granted-alike, lowered-alike, written-alike}
pub use Rattle.desk_law.proofs.AttemptsOnCurrent.{HasGone, attempt-goes, wanted-is}
pub use Rattle.desk_law.proofs.Contest.{rolled-consistent}
pub use Rattle.desk_law.proofs.ContestRounds.{with_cycle}
pub use Rattle.desk_law.proofs.CurrentSteps.{current-begun, current-quiet, current-rolled}
pub use Rattle.desk_law.proofs.Endings.{begins-consistent, first_entry, granted-rolled, quiet-consistent, refused-consistent, with_first}
pub use Rattle.desk_law.proofs.Entries.{filter-short, found-among, new-among, one-entry, replaced, replaced-among}
pub use Rattle.desk_law.proofs.EntriesEnd.{check-ends, commit-ends}
pub use Rattle.desk_law.proofs.GoesOn.{due-more, grants-held, row-goes-on}
pub use Rattle.desk_law.proofs.Identifiers.{freed-told, granted-told, lowered-told, permitted-told, refused-told, told-taken}
pub use Rattle.desk_law.proofs.KeptTables.{alike-back, alike-same, alike-then, both-imply, conflicts-alike, filter-alike}
pub use Rattle.desk_law.proofs.LaidPlaces.{laid-places, place-kept, place-laid}
pub use Rattle.desk_law.proofs.MarkedLines.{marked-commit, marked-end, marked-mark, marked-row}
pub use Rattle.desk_law.proofs.Others.{others}
pub use Rattle.desk_law.proofs.RowsThere.{open-due, within-most}
pub use Rattle.desk_law.proofs.Seats.{at-number, conflicts-seats, kept-seats, seat-told, told-found, told-others, told-replaced, told-seat, waits-seats}
pub use Rattle.desk_law.proofs.ServedEffect.{got}
pub use Rattle.desk_law.proofs.ServedRows.{WentOn, contest-begins, free-gets, free-none, gets-goes}
pub use Rattle.desk_law.proofs.ServesConflicts.{IsContesting, contesting-consistent, contesting-gets, contesting-loses, contesting-ready, contesting-turn, contesting-victim, contesting-waits}
pub use Rattle.desk_law.proofs.TurnsStay.{resident-consistent}
pub use Rattle.desk_law.proofs.Waiting.{among-any, any-among}
pub use Rattle.desk_law.specs.Beside.{AreAlike, AreWrittenMarked, AreLinesLaid, IsState, IsThere, IsTableTold, Reads, StandsFor, by_number, kept_conflict, kept_waits, over_all, owner_told, owners_told}
pub use Rattle.desk_law.specs.Changes.{committed_at, gone_on, committed_by, row_done}
pub use Rattle.desk_law.specs.Consistent.{AreConsistent, AreDistinct, NumbersAscend, IsAmong}
pub use Rattle.desk_law.specs.Current.{IsCurrent}
pub use Rattle.desk_law.specs.Orderly.{IsOrderly}
pub use Rattle.desk_law.specs.UnderWay.{MayGoOn, IsUnderWay, KeepsPages, contest, marked_waiting, served_attempt, touched_of}
pub use Rattle.flat_machine.specs.After.{after, clear, first_registers, start}
pub use Rattle.flat_machine.specs.Row.{Check, Commit, On, Outcome, in_register, in_segment, in_window, located, row, plan_at, acts, moved, row_by, halfword, fetched, fetched_from, plan_of_pair, plan_of_branch, plan_alone, plan_by}
pub use Rattle.flat_machine.specs.Touched.{lines_at, touched, touched_by}
pub use Rattle.flat_machine.specs.declared.machine.Plain.{Plain}
pub use Rattle.flat_machine.specs.declared.machine.Program.{Program}
pub use Rattle.frame_pool.proofs.SeenLemmas.{Stays, gone-stays}
pub use Rattle.frame_pool.specs.Pool.{pool_emptied, frame_at, gone, line_in_frame, line_kept, line_shown, marks_at, settled, page_undone, with_bytes, Brought, line_laid}
pub use Rattle.frame_pool.specs.Seen.{IsSeen}
pub use Rattle.frame_pool.specs.Sizes.{frame_count, line_place, line_size, private_frames}
pub use Rattle.frame_pool.specs.declared.pool_model.Pool.{Pool}
pub use Rattle.page_table.specs.Placed.{cleared_entry, unowned}
pub use Rattle.lines.proofs.LineSetLemmas.{is_in_where-below, of_page-below, of_page_where}
pub use Rattle.lines.proofs.WithinLemmas.{byte_count-lines, byte_count_pages, line-below, line-bytes-pos, segment-within}
pub use Rattle.lines.specs.Directory.{Layout, byte_count, is_fine_page, length_of, page_count, start_of}
pub use Rattle.lines.specs.FlatStore.{FlatStore}
pub use Rattle.lines.specs.Legal.{AreSegmentsLegal}
pub use Rattle.lines.specs.LineSets.{IsOfPage, between, difference, union}
unfoldable pub use Rattle.lines.specs.LineSets.{passing}
pub use Rattle.lines.specs.FlatLines.{line_count, line_of, page_of}
pub use Rattle.lines.specs.Segments.{line_bytes, page_bytes}
pub use Rattle.lines.specs.declared.line_geometry.PageSize.{PageSize}
pub use Rattle.lines.specs.declared.line_geometry.PageSize.TheVariants.{Four, Two}
pub use Rattle.lines.specs.declared.line_set.LinesOf.{LinesOf}
pub use Rattle.seats.proofs.FlatLemmas.{flat-taken, has-other_page, has-page}
pub use Rattle.seats.specs.Flat.{IsFlat, flat_lines, lines_wanted}
pub use Rattle.seats.specs.Held.{AreWithin, holds_some, nothing, of_page, together, with_want, with_wants, write_count}
pub use Rattle.seats.specs.Holding.{Holding, IsWholeHolding, held_at, no_lines_of, nothing_held, of_seat, released}
pub use Rattle.seats.specs.declared.request.Request.{Request}
pub use Rattle.seats.specs.declared.request.Want.{Want}
pub use Rattle.lines.proofs.ConflictLemmas.{any-or, has-pages_of, has-whole_pages, reaches}
pub use Rattle.lines.proofs.SetLemmas.{any-at, any-some, has-append, has-filter, has_left, has_right}
pub use Rattle.lines.proofs.SizeLemmas.{size-alike, size-apart, size-append, size-counted}
pub use Rattle.lines.specs.Access.{Grant, grant_by, fine_grant_by, lets, nobody, permits}
pub use Rattle.lines.specs.Conflicts.{Lines, both, conflicts, is_whole_page, no_lines, page_of_line, pages_of, with_whole_pages, within_page}
pub use Rattle.lines.specs.Resident.{brought, taken_out}
pub use Rattle.lines.specs.Sets.{distinct, has, size}
pub use Rattle.lines.specs.Waits.{shown_cycle, victim_of}
pub use Rattle.page_table.specs.Entries.{grant_of}
pub use Rattle.page_table.specs.declared.lockbit_rules.Authority.{Authority}
pub use Rattle.outside.proofs.Runs.{asks_none, asks_on}
pub use Rattle.outside.specs.Causes.{Rose}
pub use Rattle.outside.specs.Runs.{FewerLater, OnlyAsks, held_of}
pub use Rattle.outside.specs.declared.world.Outside.{Ghosts}
pub use Rattle.lines.proofs.OverlayLemmas.{length-overlaid, overlaid_before, overlaid_behind, overlaid_within}
pub use Rattle.lines.specs.Overlay.{overlaid}
pub use Rattle.store.specs.Kept.{begun_of, record_bytes_of, with_line}
pub use Rattle.store.specs.KeptStore.{StoreView, with_begun}
pub use Rattle.romp_cpu.specs.Attempts.{IsOfFewBytes, lines_of_access}
pub use Rattle.romp_cpu.specs.Segments.{registers_of_program}
pub use Rattle.romp_cpu.specs.Tried.{at, how_went}
pub use Rattle.romp_cpu.specs.declared.cpu.Cpu.{Cpu}
pub use Rattle.romp_cpu.specs.declared.storage.Access.{Access}
pub use Rattle.seats.proofs.Ascending.{all-has, none-free, some-free}
pub use Rattle.seats.proofs.Kept.{few-taken, kept-left, kept-seated, kept-took, long-seat, other-with, same-with, taken-below}
pub use Rattle.seats.proofs.ListedLemmas.{has-at}
pub use Rattle.seats.proofs.Numbers.{apart-taken, cycle-numbers, holders-flat, seat-found, seat-of-taken, waits-flat, waits-none}
pub use Rattle.seats.specs.Seating.{IsSeating, Seating, seat_left, newcomer, nobody_sits, number_in, numbers_seated, seat_of, sitter, took, waiting_for, went_on, with_sitter}
unfoldable pub use Rattle.seats.specs.Seating.{next_seat}
pub use Rattle.seats.specs.Waiting.{AreOfPage, cycle_of, holders, seat_waits}
pub use Rattle.seats.specs.declared.seat.Seat.{Seat}
pub use Rattle.page_table.specs.Registers.{Registers, located_by, virtual_at}
pub use Rattle.storage_unit.proofs.ByteLemmas.{byte-of-all, in-range, over-none, over-some}
pub use Rattle.storage_unit.proofs.LeaveLemmas.{clean-shows}
pub use Rattle.storage_unit.proofs.LeftLemmas.{range-long}
pub use Rattle.storage_unit.proofs.SizeLemmas.{frame-high, page-of-line}
pub use Rattle.storage_unit.proofs.StateLemmas.{emptied-stays, laid-bytes, room-stays}
pub use Rattle.storage_unit.proofs.UnitLemmas.{program-reached, unit-sound}
pub use Rattle.storage_unit.specs.Bytes.{IsClean, byte_in_frame, byte_over, bytes_over, is_line_marked, is_marked, private_bytes}
pub use Rattle.storage_unit.specs.PoolLaws.{PoolFits, PoolKeeps, SettleKeeps, UndoForgets, frame_filled, is_among, page_bytes_in}
pub use Rattle.storage_unit.specs.Places.{is_private, offset_of, place_at, private_segment}
pub use Rattle.storage_unit.specs.Rows.{ChangesBytes, GivesRows, GoesOpen, HasWindows, IsOpen, IsOpenLine, IsRow, LeavesSeats, StaysClean, plain_over, IsShutOut}
pub use Rattle.storage_unit.specs.Served.{seat_begun, seat_ended}
pub use Rattle.storage_unit.specs.View.{reach_of}
pub use Rattle.storage_unit.specs.declared.unit_model.Reach.{Reach}
pub use Rattle.store_format.specs.Bank.{RecordLine, record_bytes}
pub use Rattle.store_format.specs.Header.{Header, entry_bytes, most_lines, total}
pub use Rattle.store_format.specs.Stands.{Damaged, NotAStore, Standing, Stands, laid}
unfoldable pub use Rattle.store_format.specs.Stands.{stands}
pub use Rattle.activations.specs.Activity.{Activity, first_live, authority_at, flat_authority, authority_told, authority_under, desk_over, entries, entry_for, entry_in, lines_held, live_in, locks_in, no_program, nothing_runs, number_under, program_at, program_in, request_for, request_in, shown, state_for, state_in, store_over}
pub use Rattle.activations.specs.Kept.{CameTo, IsSeatSelected, IsLineShut, IsAtStop, Strode, TookEffect, WasAttempted, WillTouch, attempted, plain_in, printed_after, KeepsParts, StandsStill, StaysSeated, RunsAt, StrodeTo, with_live, standing}
pub use Rattle.activations.specs.Begins.{Begins, BeginsSo, HasNobody, IsBegin, begun_in, number_given, idle, started, begin_answer}
pub use Rattle.activations.specs.Steps.{HasSettled, HasUndone, IsDeserted, IsRestarted, WereRolled, reprinted, AreAsCommitted, AreWritten, HasCommittedAt, RowGoesOn, HasExecuted, IsPoolMoved, RollsBack, Strides, WereSettled, WereUndone, counted, executed, is_of, rolled, vacated, with_other_pool, wrote, IsRolledBack, CommitsWherever, IsUndone}
pub use Rattle.activations.specs.Stages.{HasBrokenOff, IsBrokenOff, IsIn, IsStoreOf, IsUnread, KeepsPool, EndsByDisk, EndsContest, EndsRows, Fetches, HasFetched, KeepsAll, EndsServing, IsCheckCode, IsNoLimit, ComesOut, Instructs, CanFetch}
pub use Rattle.activations.specs.Follows.{AreHeldOfPages, KeepsDesk, IsIdentified, IsBeside, IsSetUp, IsActivitySound, HasFrames}
pub use Rattle.activations.specs.Turning.{GoesUncounted, IsWanted, IsEndOfRows, IsInstruction, IsPrepared, IsServed, Prepares, Serves, Contests, HasBroken, HasEnded, tally_counts, FromContest, AreTurns, ComesBack, IsAtCommit, IsStepTaken, IsTurning, MayBeShut, commit_call, selected_in, turn_in}
pub use Rattle.activations.specs.Recorded.{HasWritten, IsRecordOf, LaidIsCommitted, pool_line, recorded, with_lines, written_of}
pub use Rattle.activations.specs.Serving.{AreTouched, IsFetched, IsToServe, attempt_in, counted_with, lines_with, AreGranted, AreLowered, AreSet, Goes, IsContested, IsFree, ComesToEnd, WereRefused, asking, authority_given, authority_to_read, instruction_in, is_lowered, locked, pages_lowered, with_entries}
pub use Rattle.activations.specs.Touched.{AreLetBut, AreWanted, IsWantApart, each_refused, is_granted, lines_between, page_if, pages_picked, pages_refused, pages_wanted, refuses_want, stores_into, wants_of, with_whole_page}
pub use Rattle.activations.specs.declared.live.Live.{Live}
pub use Rattle.activations.specs.declared.tally.Tally.{Tally}
pub use Rattle.activations.specs.declared.touched_lines.TouchedLines.{TouchedLines}
pub use Rattle.frame_pool.proofs.SoundLemmas.{differs, has-remove_other, turned}
pub use Rattle.store.proofs.WriteLemmas.{asks_only}
pub use Rattle.std.proofs.lemmas.Simd.{map-map}
pub use Rattle.flat_machine.specs.Agreement.{SameWay, all_of}
pub use Rattle.flat_machine.specs.Plans.{Plan, Does, Fails}
pub use Rattle.flat_machine.specs.declared.machine.Located.{Located}
pub use Rattle.flat_machine.specs.declared.machine.Located.TheVariants.{Refused, Private, Shared}
pub use Rattle.activations.specs.Fields.{activity_of}
pub use Rattle.activations.specs.declared.activations.Activations.TheInside.{Inside}
