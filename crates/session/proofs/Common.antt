-- The names that most proofs cite, passed on from one place. Declares nothing.
pub use Rattle.std.proofs.Common.{List, None, Option, Some, [], ap, arith, inl, inr, length, length-append, refl, rules, subst, sym, take, ℕ, ⊎_elim, ◌%◌, ◌*◌, ◌++◌, ◌+◌, ◌-◌, ◌<◌, ◌^◌, ◌∙◌, ◌∷◌, ◌≡◌, ◌≤◌, ◌⊎◌, find, get_or, suc, zero}
pub use Rattle.std.proofs.lemmas.Bool.{and_parts, cases_lt, eq-eqb, eqb-true}
pub use Rattle.std.proofs.lemmas.Grind.{common_steps}
pub use Rattle.std.proofs.lemmas.List.{get_or_past, map-append, nil_from_length}
pub use Rattle.std.specs.Prelude.{Bool, IsFalse, false, is_some, not, true, unwrap_or, ◌==◌, IsSome, drop, filter, if◌then◌else◌, map, nat_lt, slice_index, slice_set, vec_capacity, vec_len, ◌↔◌}
pub use Rattle.activations.specs.Activity.{Activity, desk_over, entries, entry_in, live_in, program_at, program_in, shown, state_in, store_over}
pub use Rattle.activations.specs.Begins.{Begins, IsBegin, begin_answer, begins_by, idle}
pub use Rattle.activations.specs.Stages.{IfJournal, IfVictim, IsStoreOf}
pub use Rattle.activations.specs.Steps.{IsRestarted, reprinted, IsDeserted, rolled}
pub use Rattle.activations.specs.Follows.{KeepsDesk}
pub use Rattle.activations.specs.Turning.{IfWaits, IsEndOfRows, HasEnded, tally_counts, IsAtCommit, commit_call, turn_in}
pub use Rattle.activations.specs.Kept.{AreRowsWithin}
pub use Rattle.activations.specs.declared.live.Live.{Live}
pub use Rattle.activations.specs.declared.tally.Tally.{Tally}
pub use Rattle.desk.specs.Answers.{EntersOrder, HasNumbers, begun_told, counts_told, ending_told, order_told, turn_closes, turn_told}
pub use Rattle.desk.specs.Calls.{CallsStore, FailsCounted, Fixed, StaysShut}
pub use Rattle.desk.specs.Crash.{IsEitherOf, TookEvent, fine_step, standing_of, told_event}
pub use Rattle.desk.specs.Desk.{Desk, Active, opened, with_active}
pub use Rattle.desk.specs.Holdings.{conflicts_of, numbers, waits_for, wanted}
pub use Rattle.desk.specs.Instruction.{InFlight, Broken, Contest, Contested, Counts, Doubt, Failed, Fetched, Fetching, Fine, Going, Limit, Lost, Over, ReadFailed, Settled, Turning, Unwritten, DiskWord, asks, attempts, attempts_at, breaks_cycle, breaks_cycles, commits, contest_ends, fetched_first, fetches_touched, gets, goes_on, is_over_limit, limited, no_counts, ordered, refused_pages, takes_effect, turn, turn_of, waits_or_gets, with_grants}
unfoldable pub use Rattle.desk.specs.Instruction.{instruction, turns}
pub use Rattle.desk.specs.Kept.{HoldsStore, Journal, JournalAfter, WritesMore, journal_emptied, journal_in, journal_under, journal_with, records_of, turn_fails, bytes_taken}
pub use Rattle.desk.specs.Report.{number_after}
pub use Rattle.desk.specs.Run.{CheckpointFailed, CheckpointMade, CrashFailed, Crashed, Happening, Step, Turned, absent_segment, restarted, run, shut, step, turned}
pub use Rattle.desk.specs.Told.{Takes, Told, ToldAfterEnd}
pub use Rattle.desk.specs.declared.answers.Begun.{Begun}
pub use Rattle.desk.specs.declared.answers.Committed.{Committed}
pub use Rattle.desk.specs.declared.answers.Cycle.{Cycle}
pub use Rattle.desk.specs.declared.answers.TurnEnd.{TurnEnd}
pub use Rattle.desk_law.proofs.Seats.{seat-told, told-found}
pub use Rattle.desk_law.specs.Beside.{IsState, Reads, over_all}
pub use Rattle.desk_law.specs.Changes.{committed_at}
pub use Rattle.flat_machine.specs.After.{after}
pub use Rattle.flat_machine.specs.Row.{Check, Commit, On, Outcome, row}
pub use Rattle.flat_machine.specs.declared.machine.Plain.{Plain}
pub use Rattle.lines.specs.Directory.{Layout, byte_count, page_count}
pub use Rattle.lines.specs.FlatStore.{FlatStore}
pub use Rattle.lines.specs.Sets.{has}
pub use Rattle.outside.proofs.Runs.{asks_none, asks_on, leaves_on}
pub use Rattle.outside.specs.Causes.{Rose}
pub use Rattle.outside.specs.Durable.{IsSure}
pub use Rattle.outside.specs.Runs.{FewerLater, Leaves, OnlyAsks, held_of}
pub use Rattle.outside.specs.declared.world.Outside.{Ghosts}
pub use Rattle.store.specs.Held.{IsMoreBy, OnlyWrites}
pub use Rattle.store.specs.Kept.{begun_of, BankView, with_record}
pub use Rattle.store.specs.declared.keep.Kept.{Kept}
pub use Rattle.store.proofs.ShowLemmas.{reopened_holds, shown_stands, shown_store, shows_begun, sure_on}
pub use Rattle.store.specs.KeptStore.{StoreView, store_number, with_begun}
pub use Rattle.store.specs.Shows.{Shows, TracksStore}
pub use Rattle.desk_law.proofs.StepLemmas.{stepped}
pub use Rattle.seats.proofs.Kept.{few-taken, taken-below}
pub use Rattle.seats.proofs.Numbers.{seat-found}
pub use Rattle.seats.specs.Seating.{newcomer, number_in, seat_of, sitter}
unfoldable pub use Rattle.seats.specs.Seating.{next_seat}
pub use Rattle.store_format.specs.Bank.{Faulty, Holds, RecordLine, bank_of, Area, BankContent, Closed, Gate, Sound, Wrong, count_of, gate_at, record_bytes}
pub use Rattle.store_format.specs.Header.{HasRanges, Header, header_of, most_lines, total, entry_bytes, number_at}
pub use Rattle.store_format.specs.Stands.{Standing, Stands, chosen, laid, one_more}
unfoldable pub use Rattle.store_format.specs.Stands.{stands}
pub use Rattle.session.specs.Causes.{ClosesInCommit, IsBeginAnswer, IsFailedCommit, IsTurnEnd, LeavesStore, TellsNumber, turn_answer, lacking}
pub use Rattle.session.specs.SessionLaws.{CyclesWereMet, ShownIsConsistent, ShownIsIsolated, WasMet, WereMet}
pub use Rattle.session.specs.Session.{IsSessionSound, activity, fixed_of, session_desk, session_told, order_of}
pub use Rattle.session.specs.Shown.{IsOpenOver, ShowsDesk, session_view}
pub use Rattle.session.specs.Went.{HasCommitted, TurnHasRun, IsCommitEnd, IsEitherSide, IsTurned, fine_desk}
pub use Rattle.session.specs.declared.session.SessionState.{SessionState}
pub use Rattle.store.specs.Committed.{HoldsCommitted, emptied, roomy}
pub use Rattle.desk.specs.declared.answers.Turn.{Turn}
pub use Rattle.store.specs.Tracks.{HoldsRecords, IsEither}
pub use Rattle.std.proofs.lemmas.Bool.Decides.{nat_tests}
pub use Rattle.std.specs.Option.{option_map}
pub use Rattle.activations.proofs.ContestLemmas.{fewer, numbers-told}
