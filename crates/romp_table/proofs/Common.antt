-- The names that most proofs cite, passed on from one place. Declares nothing.
pub use Rattle.std.proofs.Common.{None, Option, Some, ap, arith, cond, false, refl, rules, subst, sym, take, ℕ, ◌/◌, ◌<◌, ◌^◌, ◌∙◌, ◌≡◌, find, get_or, length, suc, zero, zero-add, ℤ, ◌%◌, ◌-◌, ◌≢◌}
pub use Rattle.std.proofs.lemmas.Bool.Decides.{nat_tests}
pub use Rattle.std.proofs.lemmas.List.FromFn.{get_or-map-range_with_len, get_or-range_with_len}
pub use Rattle.std.proofs.lemmas.Option.{slice_get-map, get_or_from_slice_get}
pub use Rattle.std.specs.List.{list_all, position_or_len, range_with_len, slice_get}
pub use Rattle.std.specs.Option.{option_map, option_map_or}
pub use Rattle.std.specs.Prelude.{IfNone, IfSome, IsSomeAnd, IsTrue, nat_lt, option_and_then, ◌-ℤ◌, Bool, List, [], is_none, is_some, map, negsuc, pos, slice_index, true, ◌*◌, ◌+◌, ◌==◌, ◌∷◌}
pub use Rattle.romp_table.specs.Decode.{decoded, has_number, has_uses, if_used, instruction_by, nibble, number_unit, signed}
unfoldable pub use Rattle.romp_table.specs.Decode.{row_numbered}
pub use Rattle.romp_table.specs.Encode.{BeginWith, field_bits, inst_bytes, halfword_bytes, encoded, first_of, first_with, op_number, second_of}
pub use Rattle.romp_table.specs.Legal.{HasWidths, IsLegal, IsRowOf, IsSigned, format_of, op_of}
unfoldable pub use Rattle.romp_table.specs.Names.{mnemonic, op_named}
pub use Rattle.romp_table.specs.Names.{slot_of}
pub use Rattle.romp_table.specs.Rows.{is_row_at, op_place}
unfoldable pub use Rattle.romp_table.specs.Rows.{row_of}
pub use Rattle.romp_table.specs.declared.inst.Inst.{Inst}
pub use Rattle.romp_table.specs.declared.inst.Op.{Op}
pub use Rattle.romp_table.specs.declared.names.TheConstants.{NAMES, SLOTS}
pub use Rattle.romp_table.specs.declared.table.Format.{Format}
pub use Rattle.romp_table.specs.declared.table.Row.{Row}
pub use Rattle.romp_table.specs.declared.table.TheConstants.{PLACES, TABLE}
pub use Rattle.std.proofs.lemmas.Grind.{elements, common_steps}
