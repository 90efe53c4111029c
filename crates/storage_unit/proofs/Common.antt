-- The names that most proofs cite, passed on from one place. Declares nothing.
pub use Rattle.std.proofs.Common.{append_assoc, All, Bool, Err, List, None, Ok, Option, Result, Some, [], ap, arith, drop, false, get_or, inl, inr, length, refl, replicate, subst, suc, sym, take, true, zero, ℕ, ◌%◌, ◌*◌, ◌++◌, ◌+◌, ◌-◌, ◌/◌, ◌<◌, ◌^◌, ◌∙◌, ◌∷◌, ◌≡◌, ◌≢◌, ◌≤◌, ◌⊎◌, add-one}
pub use Rattle.std.proofs.lemmas.Bool.{cases_Bool, cases_eq, cases_lt, eq-eqb, eqb-false, eqb-true, leb-true, ltb-true, ne_eqb, both_ways, or_left}
pub use Rattle.std.proofs.lemmas.Bool.Decides.{nat_tests}
pub use Rattle.std.proofs.lemmas.Grind.{same_number_lists, common_steps}
pub use Rattle.std.proofs.lemmas.List.{get_or-append_right, get_or-drop, get_or-replicate, get_or-set_other, get_or-set_same, get_or-take, get_or_append_left, get_or_default, get_or_past, length-append, length-drop, length-map, length-replicate, length-set, length-take, map-append, same_lists, set_past, take-append-drop, take_all, set-get_or, take-set, drop-set, replicate-append-replicate}
pub use Rattle.std.proofs.lemmas.List.Elements.{All-head, All-nil, All-tail}
pub use Rattle.std.proofs.lemmas.List.FromFn.{get_or-map-range_with_len, length-map-range_with_len}
pub use Rattle.std.proofs.lemmas.Nat.{div-add-mod'}
pub use Rattle.std.specs.List.{prefix_len, range_with_len}
pub use Rattle.std.specs.Option.{option_map_or}
pub use Rattle.std.specs.Prelude.{IfSome, cond, find, fold, if◌then◌else◌, is_some, map, nat_le, nat_lt, not, option_and_then, option_map, option_to_list, slice_index, slice_index_or, slice_range, slice_set, sum_by, take_while, ◌&&◌, ◌==◌, ◌||◌}
pub use Rattle.flat_machine.specs.Access.{FitsFrom}
pub use Rattle.flat_machine.specs.Row.{in_register, in_segment, in_window, located, plan, stored_bytes}
pub use Rattle.flat_machine.specs.Touched.{lines_at, touched}
pub use Rattle.flat_machine.specs.declared.machine.Located.{Located}
pub use Rattle.flat_machine.specs.declared.machine.Located.TheVariants.{Private, Refused, Shared}
pub use Rattle.flat_machine.specs.declared.machine.Program.{Program}
pub use Rattle.frame_pool.proofs.LendLemmas.{lent-part}
pub use Rattle.frame_pool.proofs.PoolLemmas.{gone-from, lines-below}
pub use Rattle.frame_pool.proofs.SeenLemmas.{Stays, frame-long, gone-absent, gone-frame, gone-stays, seen-gone, seen-lent, seen-marked, some-within}
pub use Rattle.frame_pool.proofs.SoundLemmas.{page_part}
pub use Rattle.frame_pool.specs.Pool.{Brought, pool_emptied, frame_at, frame_bytes, gone, paging_after, kept_laid, line_kept, line_laid, lines_of_part, marked_in, marks_at, page_at, page_out, frame_part, settled, with_bytes, with_marks, with_room}
pub use Rattle.frame_pool.specs.PoolLending.{with_frame_part}
pub use Rattle.frame_pool.specs.Seen.{IsSeen}
pub use Rattle.frame_pool.specs.Sizes.{frame_count, line_place, line_size, private_frames}
pub use Rattle.frame_pool.specs.declared.pool_model.Pool.{Pool}
pub use Rattle.page_table.proofs.FindLemmas.{is-held, look_up-held, look_up-is, look_up-none}
pub use Rattle.page_table.specs.Keys.{key_of, key_to}
pub use Rattle.page_table.specs.Placed.{Placed, cleared_entry, entered, entry_at, key_in, look_up, unowned, without_frame}
pub use Rattle.page_table.specs.declared.key.Key.{Key}
pub use Rattle.lines.proofs.LineSetLemmas.{is_in_where-below, of_page_where, where-alike, bits_of-lines}
pub use Rattle.lines.proofs.WithinLemmas.{byte_count_pages, segment-within}
pub use Rattle.lines.specs.Directory.{Layout, byte_count, length_of, page_count, start_of}
pub use Rattle.lines.specs.Legal.{AreSegmentsLegal}
pub use Rattle.lines.specs.LineSets.{IsOfPage, between, difference, lines_where, union, bits_of, lines_of_bits}
unfoldable pub use Rattle.lines.specs.LineSets.{passing}
pub use Rattle.lines.specs.FlatLines.{line_of, page_of}
pub use Rattle.lines.specs.Segments.{bytes_of, is_named, line_bytes, page_bytes}
pub use Rattle.lines.specs.declared.line_geometry.PageSize.{PageSize}
pub use Rattle.lines.specs.declared.line_geometry.PageSize.TheVariants.{Four, Two}
pub use Rattle.lines.proofs.SetLemmas.{has-range, in_range}
pub use Rattle.lines.specs.Conflicts.{Lines, no_lines, page_of_line}
pub use Rattle.lines.specs.Sets.{has}
pub use Rattle.lines.specs.Access.{lets}
pub use Rattle.page_table.specs.Entries.{grant_of}
pub use Rattle.page_table.specs.declared.lockbit_rules.Authority.{Authority}
pub use Rattle.lines.proofs.OverlayLemmas.{length-overlaid, overlaid_before, overlaid_behind, overlaid_within}
pub use Rattle.lines.specs.Overlay.{overlaid}
pub use Rattle.romp_cpu.proofs.WholeLemmas.{stored_bytes-long}
pub use Rattle.romp_cpu.proofs.WindowLemmas.{bytes-low, named-low, register-window}
pub use Rattle.romp_cpu.specs.Answers.{IsOutside, answer_in, answered, answered_at, bytes_of_range, if_permitted, unless_absent_at, unless_refused_at, IsRefusal, answer_of}
pub use Rattle.romp_cpu.specs.Attempts.{lines_of_access}
pub use Rattle.romp_cpu.specs.Segments.{register_of_window, registers_of_program}
pub use Rattle.romp_cpu.specs.Shown.{access_to, bytes_from, halfword_of}
pub use Rattle.romp_cpu.specs.Tried.{Seen, Tried, refused_by, seen_in, tried, undone, unless_refused}
pub use Rattle.romp_cpu.specs.declared.storage.Access.{Access}
pub use Rattle.romp_cpu.specs.declared.storage.Fault.{Fault}
pub use Rattle.romp_cpu.specs.declared.storage.Probe.{Probe}
pub use Rattle.page_table.specs.Registers.{Registers, bytes_on, located_by, located_under, private_register, virtual_at}
pub use Rattle.page_table.specs.declared.segment_regs.Check.{Check}
pub use Rattle.page_table.specs.declared.segment_regs.SegmentRegister.{SegmentRegister}
pub use Rattle.page_table.specs.declared.segment_regs.Virtual.{Virtual}
pub use Rattle.page_table.proofs.TableLemmas.{of_table-entered, of_table-left}
pub use Rattle.page_table.specs.Buffer.{IsOfTable, after_found, forgotten, found}
pub use Rattle.page_table.specs.declared.tlb_model.Pair.{Pair}
pub use Rattle.storage_unit.specs.Bytes.{IsClean, byte_in_frame, byte_over, bytes_over, is_line_marked, is_marked, private_bytes}
pub use Rattle.storage_unit.specs.Held.{AreOfPages, AreReached, IsUnder, first_keys, held_in, held_private, keys_of, keys_with, keys_without, pages_begun, seat_pages, table_of}
pub use Rattle.storage_unit.specs.PoolLaws.{BringKeeps, CommitIsUnseen, EmptyKeeps, FailedBringKeeps, PoolFits, PoolKeeps, SettleKeeps, UndoForgets, frame_filled, is_among, page_bytes_in}
pub use Rattle.storage_unit.specs.Places.{is_private, key_among, key_of_page, offset_of, on, place_at, byte_place, private_segment}
pub use Rattle.storage_unit.specs.Reach.{byte_at, byte_of, is_in_frame, is_kept_from, is_refused, is_resident, is_there, marks_put, put_at, put_byte, put_in_store, refuses_byte, seat_selected, spot_put, stored}
pub use Rattle.storage_unit.specs.Reached.{AreThere, IsReachSound, Lies, bytes_shown, is_absent}
pub use Rattle.storage_unit.specs.Rows.{ChangesBytes, GoesOpen, HasWindows, IsOpen, IsOpenLine, IsRow, IsShutOut, LeavesSeats, MarksWritten, StaysClean, plain_over}
pub use Rattle.storage_unit.specs.View.{buffer_of, reach_of}
pub use Rattle.storage_unit.specs.declared.unit_model.Reach.{Reach}
pub use Rattle.storage_unit.specs.declared.unit.Unit.{Unit}
pub use Rattle.byteorder.specs.Endian.{big_number}
pub use Rattle.frame_pool.proofs.LayLemmas.{all-lines, laid-anyway, overlaid-joined}
pub use Rattle.ready_rows.specs.Known.{known}
pub use Rattle.ready_rows.specs.declared.rows.ReadyRows.{ReadyRows}
pub use Rattle.storage_unit.specs.Cleared.{AreClear, AreUsed}
pub use Rattle.storage_unit.specs.OpenLines.{AreMarked, AreOpened, first_of, IsOpenAt, IsOpenSpot, IsLineOpened, is_marked_at, lets_at, location}
pub use Rattle.storage_unit.specs.ReadyRows.{AreReady, after_store, private_byte, private_half}
