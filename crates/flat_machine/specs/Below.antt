-- The words of other crates that this crate's definitions and contracts speak with, each from its own place. Declares nothing.
pub use Rattle.std.specs.List.{flat_map, range_with_len}
pub use Rattle.std.specs.Option.{ForSome, option_map_or}
pub use Rattle.byteorder.specs.Endian.{big_bytes, big_number}
pub use Rattle.lines.specs.Conflicts.{both, Lines, no_lines, with_whole_pages}
pub use Rattle.lines.specs.Directory.{byte_count, is_fine_page, Layout, length_of, start_of}
pub use Rattle.lines.specs.FlatStore.{FlatStore, IsWholeStore}
pub use Rattle.romp_table.specs.Legal.{HasWidths, op_of}
pub use Rattle.romp_table.specs.declared.inst.Inst.{Inst}
pub use Rattle.romp_table.specs.declared.inst.Op.{Op}
