-- The names that most proofs cite, passed on from one place. Declares nothing.
pub use Rattle.call_status.specs.Call.{Given, call, given}
pub use Rattle.call_status.specs.Opening.{IsFaultAt, TellsStore}
pub use Rattle.call_status.specs.declared.status.Status.{Status}
pub use Rattle.desk.specs.Commits.{IsSerial, begun, serial_lines}
pub use Rattle.desk.specs.Desk.{Desk}
pub use Rattle.desk.specs.ReportLines.{ReportLine}
pub use Rattle.desk.specs.Report.{event_lines, report}
pub use Rattle.desk.specs.Run.{IsRunOf, run}
pub use Rattle.file_runs.specs.FileRun.{AreBehind, Hands, IsBehind, IsSeenAt, KeepsFile, LeavesAlways, LeavesAt, LeavesLast, OnlyAsked, RanOnFile, RanOnScreen, FromAnyStore, RunsOnFile, begun_by}
pub use Rattle.file_runs.specs.FileWords.{DidOnFile, IsOnFile}
pub use Rattle.file_runs.specs.ScreenWords.{AuditedOnScreen, AuditsBy, DidOnScreen, DrilledJob, DrilledOnScreen, DrillsBy, HandsDrill, HandsLoad, HandsStops, ListedOnScreen, LoadedOnScreen, TracedOnScreen, TracesBy, TriedOnScreen}
pub use Rattle.job_calls.specs.Headline.{Happened, RanJob, Refused, job_desk, names_of}
pub use Rattle.lines.specs.FlatStore.{FlatStore}
pub use Rattle.outside.proofs.Common.{AreTold, AsksAndPuts, IsSome, Leaves, LeftAt, List, Moment, None, OnlyAsks, Option, Prints, Result, Some, Torn, [], ap, append_assoc, arith, drop, inl, inr, length, length-append, min, refl, subst, suc, sym, take, unwrap_or, written, zero, ℕ, ⊎_elim, ◌++◌, ◌+◌, ◌<◌, ◌∙◌, ◌∷◌, ◌≡◌, ◌≤◌, ◌⊎◌}
pub use Rattle.outside.specs.Durable.{IsSure}
pub use Rattle.outside.specs.Runs.{held_of}
pub use Rattle.outside.specs.declared.failed.Failed.{Failed}
pub use Rattle.outside.specs.declared.world.Outside.{Ghosts}
pub use Rattle.real_files.specs.Deeds.{Deed, Synced, Tore, Unsynced, Wrote, file_images_after, file_images_at, file_images_by, deed_writes}
pub use Rattle.real_files.specs.Shown.{bytes_put, marks_of, printed_of}
pub use Rattle.std.specs.Prelude.{All, cond, count_by, false, ◌*◌}
pub use Rattle.store_calls.specs.New.{IsNoStore, IsStored, Written, WrittenBy, new_line}
pub use Rattle.store_format.specs.Stands.{Standing, Stands, stands}
pub use Rattle.session.specs.declared.session.SessionState.{SessionState}
