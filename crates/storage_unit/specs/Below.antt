-- The words of other crates that this crate's definitions and contracts speak with, each from its own place. Declares nothing.
pub use Rattle.std.specs.List.{range_with_len}
pub use Rattle.std.specs.Option.{option_map_or}
pub use Rattle.flat_machine.specs.Effect.{filled}
pub use Rattle.flat_machine.specs.Ready.{IsReadyRowOf}
pub use Rattle.flat_machine.specs.Row.{Commit, On, plan, row, stored_bytes}
pub use Rattle.flat_machine.specs.Touched.{lines_at, touched}
pub use Rattle.flat_machine.specs.declared.machine.Located.{Located}
pub use Rattle.flat_machine.specs.declared.machine.Located.TheVariants.{Private, Refused, Shared}
pub use Rattle.frame_pool.specs.Pool.{Brought, pool_emptied, frame_at, kept_laid, marks_at, page_at, page_out, settled, page_undone, with_bytes}
pub use Rattle.frame_pool.specs.Seen.{IsSeen}
pub use Rattle.frame_pool.specs.Sizes.{frame_count, private_frames}
pub use Rattle.frame_pool.specs.declared.pool_model.Pool.{Pool}
pub use Rattle.lines.specs.Access.{lets}
pub use Rattle.lines.specs.Conflicts.{Lines, page_of_line}
pub use Rattle.lines.specs.Directory.{byte_count, Layout, length_of, page_count, start_of}
pub use Rattle.lines.specs.Legal.{AreSegmentsLegal}
pub use Rattle.lines.specs.LineSets.{IsOfPage, lines_where, union}
pub use Rattle.lines.specs.FlatLines.{line_of, page_of}
pub use Rattle.lines.specs.Overlay.{overlaid}
pub use Rattle.lines.specs.Segments.{line_bytes, page_bytes}
pub use Rattle.lines.specs.Sets.{has}
pub use Rattle.lines.specs.declared.line_geometry.PageSize.{PageSize}
pub use Rattle.page_table.specs.Buffer.{after_found, found, IsOfTable}
pub use Rattle.page_table.specs.Entries.{grant_of}
pub use Rattle.page_table.specs.Keys.{key_of, key_to}
pub use Rattle.page_table.specs.KnownLines.{KnowsNoLine}
pub use Rattle.page_table.specs.Placed.{cleared_entry, entry_at, key_in, look_up, Placed, unowned, without_frame}
pub use Rattle.page_table.specs.Registers.{bytes_on, located_by, private_register, Registers}
pub use Rattle.page_table.specs.declared.key.Key.{Key}
pub use Rattle.page_table.specs.declared.segment_regs.Virtual.{Virtual}
pub use Rattle.page_table.specs.declared.tlb_model.Pair.{Pair}
pub use Rattle.ready_rows.specs.Known.{known, unless_met}
pub use Rattle.romp_cpu.specs.Answers.{answer_in, answer_of, answered_at, FitsRegisters, if_permitted, IsRefusal}
pub use Rattle.romp_cpu.specs.Attempts.{IsOfFewBytes, lines_of_access}
pub use Rattle.romp_cpu.specs.Shown.{access_to, bytes_from, halfword_of}
pub use Rattle.romp_cpu.specs.Tried.{at, how_went, seen_in, Tried, tried}
pub use Rattle.romp_cpu.specs.declared.storage.Access.{Access}
pub use Rattle.romp_cpu.specs.declared.storage.Probe.{Probe}
