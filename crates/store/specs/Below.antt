-- The words of other crates that this crate's definitions and contracts speak with, each from its own place. Declares nothing.
pub use Rattle.std.specs.Option.{ForSome, option_map, option_or}
pub use Rattle.byteorder.specs.Endian.{big_bytes, big_number}
pub use Rattle.lines.specs.FlatLines.{line_count}
pub use Rattle.lines.specs.Overlay.{overlaid}
pub use Rattle.lines.specs.Segments.{line_bytes, page_bytes}
pub use Rattle.lines.specs.declared.line_geometry.PageSize.{PageSize}
pub use Rattle.outside.specs.Bytes.{bytes_at, CountsWrite, Torn, Writes, written}
pub use Rattle.outside.specs.Causes.{FailsOnlyCounted, Rose}
pub use Rattle.outside.specs.Deeds.{Carries, Deed, Did, DidSome, Stays, Synced, SyncsBy, Wrote}
pub use Rattle.outside.specs.Durable.{IsSure, IsWritten, MakesSure}
pub use Rattle.outside.specs.Moments.{LeavesStep}
pub use Rattle.outside.specs.Runs.{AsksFor, AsksSo, CallsDisk, held_of, IfTold, Leaves, OnlyAsks, ReadsTold}
pub use Rattle.outside.specs.declared.failed.Failed.{Failed}
pub use Rattle.outside.specs.declared.world.Outside.{Ghosts}
pub use Rattle.store_format.specs.Bank.{area_at, BankContent, bank_held, bank_of, Faulty, gate_if, Holds, lines_from, record_bytes, RecordLine, wrong_line}
pub use Rattle.store_format.specs.Asked.{body_deeds, copy_deeds, gate_deeds, head_bytes, home_deeds, other, selector_of, sure_deeds, turn_deeds, CommitDeeds, DoubtedDeeds, UnwrittenDeeds}
pub use Rattle.store_format.specs.Body.{body_lines, IsBody}
pub use Rattle.store_format.specs.Header.{bank_at, entry_bytes, HasRanges, Header, header_of, home_at, number_at, total}
pub use Rattle.store_format.specs.Read.{AsksUnless}
pub use Rattle.store_format.specs.Stands.{chosen, Damaged, HasHeader, IsStore, NotAStore, one_more, Standing, Stands, stands}
pub use Rattle.store_format.specs.declared.header.Which.{Which}
pub use Rattle.store_format.specs.declared.header.Which.TheVariants.{A, B}
