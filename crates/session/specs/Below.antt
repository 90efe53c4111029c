-- The words of other crates that this crate's definitions and contracts speak with, each from its own place. Declares nothing.
pub use Rattle.activations.specs.Activity.{Activity, desk_over, program_at, shown, state_in}
pub use Rattle.activations.specs.Kept.{AreRowsWithin}
pub use Rattle.activations.specs.Stages.{IfChecked, IfJournal, IfLimit, IfVictim}
pub use Rattle.activations.specs.Turning.{commit_call, IfWaits, IsAtCommit, tally_counts}
pub use Rattle.activations.specs.declared.tally.Tally.{Tally}
pub use Rattle.desk.specs.Answers.{counts_told, ending_told, HasNumbers, order_told, StoredNumber}
pub use Rattle.desk.specs.Calls.{FailsCounted, Fixed}
pub use Rattle.desk.specs.Crash.{fine_step, IsEitherOf, standing_of, View}
pub use Rattle.desk.specs.Desk.{Desk, ended, Active, opened, with_active}
pub use Rattle.desk.specs.Holdings.{numbers, waits_for}
pub use Rattle.desk.specs.Instruction.{breaks_cycles, commits, Contested, Counts, Doubt, Fine, Idle, Limit, no_counts, ordered, Over, turn, Turning, DiskWord}
pub use Rattle.desk.specs.Kept.{HoldsStore, journal_in, JournalAfter, turn_fails, writes_due, WritesMore}
pub use Rattle.desk.specs.Report.{number_after}
pub use Rattle.desk.specs.Run.{absent_segment, run, Turned}
pub use Rattle.desk.specs.Told.{HasBegun, HasCrashed, HasStored, HasTurned, OfShown, seen, TellsDesk, Told, ToldAfterEnd}
pub use Rattle.desk.specs.declared.answers.TurnEnd.{TurnEnd}
pub use Rattle.desk_law.specs.Beside.{over_all, Reads}
pub use Rattle.flat_machine.specs.declared.machine.Program.{Program}
pub use Rattle.lines.specs.FlatStore.{FlatStore, IsWholeStore}
pub use Rattle.lines.specs.Sets.{has}
pub use Rattle.outside.specs.Causes.{Rose}
pub use Rattle.outside.specs.Durable.{IsSure}
pub use Rattle.outside.specs.Runs.{held_of, Leaves, OnlyAsks}
pub use Rattle.outside.specs.declared.world.Outside.{Ghosts}
pub use Rattle.seats.specs.Seating.{number_in, seat_of, sitter}
pub use Rattle.store.specs.Held.{OnlyWrites}
pub use Rattle.store.specs.KeptStore.{StoreView, store_number, with_begun}
pub use Rattle.store.specs.Shows.{Shows, TracksStore}
pub use Rattle.store_format.specs.Header.{HasRanges, Header, header_of, most_lines}
pub use Rattle.store_format.specs.Stands.{Stands, stands}
