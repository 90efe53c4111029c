-- The words of other crates that this crate's definitions and contracts speak with, each from its own place. Declares nothing.
pub use Rattle.call_status.specs.Call.{Given, given}
pub use Rattle.call_status.specs.Opening.{IsFaultAt}
pub use Rattle.call_status.specs.SourceText.{IsAll, IsWholeText}
pub use Rattle.call_status.specs.declared.status.Status.{Status}
pub use Rattle.console.specs.declared.command_words.Command.{Command}
pub use Rattle.desk.specs.Answers.{order_told}
pub use Rattle.desk.specs.Commits.{begun, IsSerial, serial_lines}
pub use Rattle.desk.specs.Instruction.{DiskWord}
pub use Rattle.desk.specs.Report.{event_lines, report}
pub use Rattle.desk.specs.Run.{IsRunOf, run}
pub use Rattle.desk.specs.declared.event.Event.{Event}
pub use Rattle.job_calls.specs.Headline.{ByOpening, job_desk, names_of, put_by}
pub use Rattle.job_calls.specs.declared.ended.Ended.{Ended}
pub use Rattle.job_text.specs.Grammar.{content_of, job_of}
pub use Rattle.job_text.specs.declared.job.Job.{Job}
pub use Rattle.lines.specs.FlatStore.{FlatStore}
pub use Rattle.outside.specs.Bytes.{Prints, Torn}
pub use Rattle.outside.specs.declared.failed.Failed.{Failed}
pub use Rattle.real_files.specs.Deeds.{Deed, file_images_at, deed_writes, StopsAtFailure, Synced, Tore, Unsynced, Wrote}
pub use Rattle.real_files.specs.Shown.{marks_of, printed_of}
pub use Rattle.standby.specs.State.{behind, due, state}
pub use Rattle.standby.specs.Text.{ShipContent, IsContent, later, ship_text}
pub use Rattle.store.specs.KeptStore.{StoreView, store_number}
pub use Rattle.store.specs.Shows.{Shows}
pub use Rattle.store_calls.specs.New.{IsNoStore, new_line}
pub use Rattle.store_format.specs.Stands.{Stands, stands}
pub use Rattle.session.specs.declared.session.SessionState.{SessionState}
