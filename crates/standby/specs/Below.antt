-- The words of other crates that this crate's definitions and contracts speak with, each from its own place. Declares nothing.
pub use Rattle.call_status.specs.Call.{Called, call, Given, given}
pub use Rattle.call_status.specs.Faults.{FaultsBy, RoomEnds, RoomReads}
pub use Rattle.call_status.specs.Opening.{IsFaultAt, IsOfStart, TellsStore}
pub use Rattle.call_status.specs.Printed.{PrintsBy}
pub use Rattle.call_status.specs.Statuses.{IsOfOpening}
pub use Rattle.call_status.specs.declared.status.Status.{Status}
pub use Rattle.lines.specs.FlatStore.{FlatStore}
pub use Rattle.lines.specs.FlatLines.{line_count}
pub use Rattle.lines.specs.Segments.{line_bytes}
pub use Rattle.outside.specs.Bytes.{AreTold, Prints}
pub use Rattle.outside.specs.Causes.{FailsOnlyCounted, Rose}
pub use Rattle.outside.specs.Moments.{Elapses, IsOnePut}
pub use Rattle.outside.specs.Runs.{AsksAndPuts, held_of, Leaves, OnlyAsks, OnlyOpens, OnlyPuts, OpensAndPuts}
pub use Rattle.outside.specs.declared.failed.Failed.{Failed}
pub use Rattle.outside.specs.declared.world.Outside.{Ghosts}
pub use Rattle.store.specs.Appended.{IsUsable}
pub use Rattle.store.specs.Held.{HoldsAtLeast, IsMoreBy}
pub use Rattle.store.specs.KeptStore.{StoreView, store_number, with_begun}
pub use Rattle.store.specs.Records.{area_bytes, IsRecordAt}
pub use Rattle.store.specs.Shows.{IsShown, Shows, TracksStore}
pub use Rattle.store_format.specs.Bank.{record_bytes, RecordLine}
pub use Rattle.store_format.specs.Header.{Header, most_lines, total}
pub use Rattle.store_format.specs.Stands.{Stands, stands}
