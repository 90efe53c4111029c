-- The names that most proofs cite, passed on from one place. Declares nothing.
pub use Rattle.std.proofs.Common.{Bool, List, [], ap, arith, codes, drop, false, inl, inr, length, length-append, refl, replicate, set, slice_index, subst, suc, sym, take, true, zero, ℕ, ◌%◌, ◌*◌, ◌++◌, ◌+◌, ◌-◌, ◌<◌, ◌^◌, ◌∙◌, ◌∷◌, ◌≡◌, ◌≤◌}
pub use Rattle.std.proofs.lemmas.Bool.{cases_eq, cases_lt, le-ltb, lt-leb, ne_eqb}
pub use Rattle.std.proofs.lemmas.Bool.Decides.{nat_tests}
pub use Rattle.std.proofs.lemmas.List.{append-nil, append_assoc, drop-drop, drop-replicate, drop-take, drop_at, get_or-append_right, get_or-drop, get_or-take, get_or_append_left, get_or_past, length-drop, length-replicate, length-set, length-take, replicate-append-replicate, take-append-drop, take-append-le, take-take, take_all, take_at, take_more_set}
pub use Rattle.std.proofs.lemmas.List.Elements.{All-append, All-cons, All-head, All-nil, All-tail}
pub use Rattle.std.proofs.lemmas.Nat.{pow_below, pow_pos}
pub use Rattle.std.specs.List.{starts_with}
pub use Rattle.std.specs.Option.{option_or}
pub use Rattle.std.specs.Prelude.{All, IfOk, IfSome, IsSome, None, Ok, Option, Some, fold, if◌then◌else◌, is_some, min, nat_eq, nat_le, nat_lt, not, unwrap_or, ◌&&◌, ◌==◌, map, slice_set}
pub use Rattle.std.specs.Vec.{vec_len}
pub use Rattle.byteorder.specs.Endian.{big_bytes, big_from, big_number}
pub use Rattle.byteorder.specs.Numbers.{big_from-take, big_number-reads_back}
pub use Rattle.lines.proofs.WithinLemmas.{byte_count-lines}
pub use Rattle.lines.specs.Directory.{Layout, byte_count}
pub use Rattle.lines.specs.FlatStore.{FlatStore}
pub use Rattle.lines.specs.Legal.{AreFlags, AreSegmentsLegal, fault_after, fault_of, flag_count, is_strange}
pub use Rattle.lines.specs.FlatLines.{line_count}
pub use Rattle.lines.specs.Segments.{line_bytes}
pub use Rattle.lines.specs.declared.line_geometry.PageSize.{PageSize}
pub use Rattle.lines.specs.declared.line_geometry.PageSize.TheVariants.{Four, Two}
pub use Rattle.outside.specs.Runs.{held_of}
pub use Rattle.store_format.specs.Bank.{Area, BankContent, Closed, Faulty, Gate, HasBank, Holds, HoldsFrom, NoMore, NoRecord, OneMore, RecordLine, Sound, Wrong, area_at, area_of, bank_held, bank_of, base_of, count_of, gate_at, gate_if, head_fault, headed_gate, lined_gate, lines_from, parsed_lines, held_number, preceded, record_bytes, wrong_line}
unfoldable pub use Rattle.store_format.specs.Bank.{holds_from}
pub use Rattle.store_format.specs.Header.{Field, HasRanges, Header, bank_at, entry_bytes, fields, first_fault, fresh, front, header_bytes, header_of, home_at, most_lines, name_field, number_at, page_size_of, segment_bytes, segment_fields, segments_at, segments_of, spare_fields, total, version_of, within, zeros}
unfoldable pub use Rattle.store_format.specs.Header.{last_zeros}
pub use Rattle.store_format.specs.Stands.{Damaged, HasHeader, IsStore, NotAStore, Standing, Stands, chosen, home_of, laid, nothing_in, one_more, standing_by, standing_if}
unfoldable pub use Rattle.store_format.specs.Stands.{stands}
pub use Rattle.store_format.specs.declared.header.Which.{Which}
pub use Rattle.store_format.specs.declared.header.Which.TheVariants.{A, B}
pub use Rattle.std.proofs.lemmas.Grind.{common_steps}
