-- The names that most proofs cite, passed on from one place. Declares nothing.
pub use Rattle.std.proofs.Common.{lit<, lit≤, Bool, List, None, Option, Some, ap, append_assoc, arith, inl, inr, length, length-append, subst, suc, sym, zero, ℕ, ◌%◌, ◌++◌, ◌+◌, ◌^◌, ◌∙◌, ◌⊎◌}
pub use Rattle.std.specs.List.{flat_map, range_with_len}
pub use Rattle.std.specs.Prelude.{IsTrue, [], codes, false, filter, find, if◌then◌else◌, map, nat_lt, not, option_and_then, refl, slice_get, true, ◌==◌, ◌∷◌, ◌≡◌, replicate, slice_range, ◌-◌, ◌≤◌}
pub use Rattle.flat_machine.specs.Serial.{Activation, before_commit, committing, if_commit, numbered, serial}
pub use Rattle.flat_machine.specs.declared.machine.Plain.{Plain}
pub use Rattle.flat_machine.specs.declared.machine.Program.{Program}
pub use Rattle.lines.specs.FlatStore.{FlatStore}
pub use Rattle.lines.specs.declared.line_geometry.PageSize.TheVariants.{Four, Two}
unfoldable pub use Rattle.romp_table.specs.Decode.{row_numbered}
pub use Rattle.desk.specs.Desk.{Desk, Active, ended, opened, rolled_back, with_active}
pub use Rattle.desk.specs.Holdings.{conflicts_of, numbers, waits_for, wanted}
pub use Rattle.lines.specs.Access.{fine_grant_by}
pub use Rattle.desk.specs.Instruction.{InFlight, Broken, Checked, CommitDoubted, CommitUnwritten, Committed, Contest, Contested, Counts, Disk, Doubt, Ending, Failed, Fetched, Fetching, Fine, Going, Idle, Journal, Limit, Lost, Over, ReadFailed, Settled, Turning, Unwritten, Victim, Waits, DiskWord, asks, attempts, attempts_at, breaks, breaks_cycle, breaks_cycles, commits, contest_ends, fetched_first, fetches_touched, gets, goes_on, is_over_limit, limited, no_counts, ordered, refused_pages, takes_effect, turn, turn_of, waits_or_gets, with_grants}
unfoldable pub use Rattle.desk.specs.Instruction.{instruction, turns}
pub use Rattle.desk.specs.Report.{cycle_lines, event_lines, happening_lines, number_after, report}
pub use Rattle.desk.specs.Run.{is_fine, run}
pub use Rattle.desk.specs.declared.event.Event.TheVariants.{Begin, Checkpoint, Crash, Turn}
pub use Rattle.std.proofs.lemmas.Bool.Decides.{nat_tests}
