-- The words of other crates that this crate's definitions and contracts speak with, each from its own place. Declares nothing.
pub use Rattle.std.specs.Borrow.{Array, Fml, Lends, MutBor, sem, u8}
pub use Rattle.std.specs.List.{range_with_len}
pub use Rattle.std.specs.Option.{option_map_or}
pub use Rattle.lines.specs.LineSets.{between, difference, union}
pub use Rattle.lines.specs.Overlay.{overlaid}
pub use Rattle.lines.specs.Segments.{line_bytes, page_bytes}
pub use Rattle.lines.specs.Sets.{has}
pub use Rattle.lines.specs.declared.line_geometry.PageSize.{PageSize}
pub use Rattle.lines.specs.Resident.{brought, taken_out}
