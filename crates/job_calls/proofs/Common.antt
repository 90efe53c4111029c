-- The names that most proofs cite, passed on from one place. Declares nothing.
pub use Rattle.std.proofs.Common.{rules, All, List, Option, Some, [], ap, append-nil, append_assoc, arith, false, get_or, inr, length, refl, subst, suc, sym, true, vec_len, ℕ, ⊎_elim, ◌++◌, ◌<◌, ◌∙◌, ◌∷◌, ◌≡◌, ◌≢◌, ◌≤◌, None, inl, take, ◌%◌, ◌+◌, ◌^◌, ◌⊎◌}
pub use Rattle.std.proofs.lemmas.List.{length-map}
pub use Rattle.std.proofs.lemmas.List.Sums.{count_by-le-length}
pub use Rattle.std.specs.Prelude.{Err, IsErr, IsSome, IsTrue, Ok, Result, map, unwrap_or, Bool, codes, count_by, decimal, IfOk, OnErr}
pub use Rattle.call_status.specs.Call.{Called, Given, call, given}
pub use Rattle.call_status.specs.Opening.{IsOfStart, IsStanding, TellsStore}
pub use Rattle.call_status.specs.declared.status.Status.{Status}
pub use Rattle.desk.specs.Answers.{order_told}
pub use Rattle.desk.specs.Calls.{Fixed}
pub use Rattle.desk.specs.Commits.{IsSerial, begun, commit_lines, is_commit, serial_lines}
pub use Rattle.desk.specs.Desk.{Desk, opened}
pub use Rattle.desk.specs.Instruction.{Doubt, DiskWord}
pub use Rattle.desk.specs.Kept.{StillTold, HoldsStore}
pub use Rattle.desk.specs.ReportLines.{ReportLine, Open, line_text, printed, spaced}
pub use Rattle.desk.specs.Report.{event_lines, number_after, report, report_lines}
pub use Rattle.desk.specs.Run.{IsRunOf, faulted, run}
pub use Rattle.desk.specs.Seen.{IsUnbroken}
pub use Rattle.desk.specs.declared.event.Event.{Event}
pub use Rattle.flat_machine.specs.Serial.{Activation, serial}
pub use Rattle.flat_machine.specs.declared.machine.Program.{Program}
pub use Rattle.job_text.specs.Ready.{IsEventAmong, IsName}
pub use Rattle.job_text.specs.declared.job.Job.{Job}
pub use Rattle.lines.specs.FlatStore.{FlatStore}
pub use Rattle.outside.proofs.Runs.{elapses-trans, leaves_on}
pub use Rattle.outside.specs.Bytes.{AreTold, Prints}
pub use Rattle.outside.specs.Causes.{Rose, FailsOnlyCounted}
pub use Rattle.outside.specs.Durable.{IsSure}
pub use Rattle.outside.specs.Moments.{Elapses}
pub use Rattle.outside.specs.Runs.{CallsDisk, FewerLater, Leaves, OpensWell, held_of}
pub use Rattle.outside.specs.declared.failed.Failed.{Failed}
pub use Rattle.outside.specs.declared.world.Outside.{Ghosts}
pub use Rattle.schedule_replay.proofs.PutsLemmas.{PrintedNow}
pub use Rattle.schedule_replay.proofs.RanToLemmas.{to_later, to_since}
pub use Rattle.schedule_replay.specs.Asked.{IsAsked, begins_in, is_turn, turns_in}
pub use Rattle.schedule_replay.specs.Quiet.{IsLasting, RunsQuietly, TallyTells, is_rollback, is_shut, out_after, going_of}
pub use Rattle.schedule_replay.specs.Ran.{HasOpened, IfInDoubt, InDoubt, PrintsEarlier, run_text}
pub use Rattle.schedule_replay.specs.Answered.{GoesBy, way_of}
pub use Rattle.schedule_replay.specs.Replays.{Replays, Reports}
pub use Rattle.schedule_replay.specs.Runs.{Opening, Interval, run_end, lines_of, opening, opening_of, report_lines_of, report_of, span}
pub use Rattle.schedule_replay.specs.declared.events.Replayed.{Replayed}
pub use Rattle.store_format.specs.Header.{Header, header_of, most_lines, total}
pub use Rattle.store_format.specs.Stands.{Standing, Stands, chosen}
unfoldable pub use Rattle.store_format.specs.Stands.{stands}
pub use Rattle.session.specs.Opened.{HasStood, IsSessionOpened}
pub use Rattle.session.specs.Session.{activity, fixed_of, session_desk, order_of}
pub use Rattle.session.specs.contracts.calls.SessionSupervisor.TheImpl.{ghosts}
pub use Rattle.session.specs.declared.session.SessionState.{SessionState}
pub use Rattle.job_calls.specs.Big.{HasBigRun, IsToldBy, Loaded, LoadedBy, RanBig, big_line, last_out, line_for}
pub use Rattle.job_calls.specs.Causes.{OpensBy, status_of_replay}
pub use Rattle.job_calls.specs.Headline.{DidBy, DoubtStands, Happened, HappenedTo, JobHasRun, HasRunFrom, RanJob, RunsFrom, job_desk, job_opening, names_of, put_by, ByOpening, PutJob, TellsJob}
pub use Rattle.call_status.specs.Statuses.{WentThrough}
pub use Rattle.schedule_replay.specs.Told.{TellsBy}
