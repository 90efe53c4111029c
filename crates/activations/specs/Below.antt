-- The words of other crates that this crate's definitions and contracts speak with, each from its own place. Declares nothing.
pub use Rattle.std.specs.List.{AllPairs, flat_map, list_any, range_with_len}
pub use Rattle.arrayvec.specs.ArrayVec.{array_vec_len}
pub use Rattle.desk.specs.Answers.{begun_told, ending_told}
pub use Rattle.desk.specs.Desk.{Desk, Active, opened, rolled_back}
pub use Rattle.desk.specs.Holdings.{conflicts_of, due_to, requested, wanted}
pub use Rattle.desk.specs.Instruction.{InFlight, Broken, commits, contest_ends, Counts, Disk, Ending, Fetched, fetches, Fine, gets, Going, instruction, Journal, lines_within, locks_with, lowered, Over, ReadFailed, refuses, touched_pages, Turning, turns, with_grants, DiskWord}
pub use Rattle.desk.specs.Run.{absent_segment, restarted, step}
pub use Rattle.desk.specs.declared.answers.TurnEnd.{TurnEnd}
pub use Rattle.desk_law.specs.Beside.{AreAlike, AreWrittenMarked, AreSeats, AreLinesLaid, IsState, over_all, owners_told, Reads}
pub use Rattle.desk_law.specs.Consistent.{AreConsistent, AreDistinct, AreResident}
pub use Rattle.flat_machine.specs.After.{after, clear, first_registers}
pub use Rattle.flat_machine.specs.Row.{Check, Commit, On, Outcome, row}
pub use Rattle.flat_machine.specs.Touched.{touched}
pub use Rattle.flat_machine.specs.declared.machine.Plain.{Plain}
pub use Rattle.flat_machine.specs.declared.machine.Program.{Program}
pub use Rattle.frame_pool.specs.declared.pool_model.Pool.{Pool}
pub use Rattle.lines.specs.Access.{fine_grant_by, Grant, grant_by, lets, nobody}
pub use Rattle.lines.specs.Conflicts.{is_whole_page, Lines, no_lines, page_of_line, pages_of}
pub use Rattle.lines.specs.Directory.{byte_count, is_fine_page, Layout, page_count, start_of}
pub use Rattle.lines.specs.LineSets.{between, difference, IsOfPage, union}
pub use Rattle.lines.specs.FlatLines.{line_count, line_of}
pub use Rattle.lines.specs.Resident.{brought, taken_out}
pub use Rattle.lines.specs.Sets.{has, size}
pub use Rattle.lines.specs.Waits.{victim_of}
pub use Rattle.lines.specs.declared.line_geometry.PageSize.{PageSize}
pub use Rattle.outside.specs.Causes.{FailsOnlyCounted, Rose}
pub use Rattle.outside.specs.Runs.{held_of, OnlyAsks}
pub use Rattle.outside.specs.declared.world.Outside.{Ghosts}
pub use Rattle.page_table.specs.Entries.{grant_of}
pub use Rattle.page_table.specs.Placed.{unowned}
pub use Rattle.page_table.specs.Registers.{located_by, Registers}
pub use Rattle.page_table.specs.declared.lockbit_rules.Authority.{Authority}
pub use Rattle.romp_cpu.specs.Attempts.{lines_of_access}
pub use Rattle.romp_cpu.specs.Segments.{registers_of_program}
pub use Rattle.romp_cpu.specs.declared.storage.Access.{Access}
pub use Rattle.seats.specs.Flat.{flat_lines, lines_wanted}
pub use Rattle.seats.specs.Held.{AreWithin, holds_some, of_page, write_count}
pub use Rattle.seats.specs.Holding.{held_at, Holding, IsWholeHolding, of_seat}
pub use Rattle.seats.specs.Seating.{IsSeating, seat_left, newcomer, next_seat, nobody_sits, number_in, numbers_seated, seat_of, seated, Seating, sitter, took, waiting_for, went_on}
pub use Rattle.seats.specs.Waiting.{AreOfPage, cycle_of, holders}
pub use Rattle.seats.specs.declared.request.Request.{Request}
pub use Rattle.seats.specs.declared.request.Want.{Want}
pub use Rattle.storage_unit.specs.Bytes.{bytes_over, is_line_marked, IsClean, private_bytes}
pub use Rattle.storage_unit.specs.PoolLaws.{PoolKeeps}
pub use Rattle.storage_unit.specs.Places.{private_segment}
pub use Rattle.storage_unit.specs.Rows.{GoesOpen, IsOpen, IsShutOut, LeavesSeats, plain_over}
pub use Rattle.storage_unit.specs.Served.{seat_begun, seat_ended, made, entries_released}
pub use Rattle.storage_unit.specs.View.{reach_of}
pub use Rattle.storage_unit.specs.declared.unit_model.Reach.{Reach}
pub use Rattle.store.specs.Held.{HoldsAtLeast}
pub use Rattle.store.specs.Kept.{begun_of, record_bytes_of}
pub use Rattle.store.specs.KeptStore.{StoreView, with_begun}
pub use Rattle.store.specs.Shows.{IsShown, page_in, TracksStore}
pub use Rattle.store_format.specs.Header.{entry_bytes, Header, most_lines, total}
pub use Rattle.store_format.specs.Stands.{laid, Stands, stands}
