-- The names that most proofs cite, passed on from one place. Declares nothing.
pub use Rattle.std.proofs.Common.{add-one, ap, arith, inl, inr, lit<, lt_of_lt_of_le, refl, sym, ℕ, ◌∙◌, ◌⊎◌, get_or}
pub use Rattle.std.proofs.lemmas.Bool.Decides.{nat_tests}
pub use Rattle.std.proofs.lemmas.List.{length-append, length-drop, length-map, length-take, get_or_append_left, get_or-append_right, get_or-take, get_or-drop}
pub use Rattle.std.proofs.lemmas.List.Sums.{sum_by-cons}
pub use Rattle.std.proofs.lemmas.Nat.{div_below, ones_le_self, pow_pos, zero_from_ones}
pub use Rattle.std.proofs.lemmas.Nat.Bits.{bit_at-lt, bit_at-trailing_zeros, bit_at-zero, bit_at_and, bit_at_clear_other, bit_at_clear_same, bit_at_lowest, bit_at_mask_below, bit_at_mask_inside, bit_at_not, bit_at_ones, bit_at_ones_above, bit_at_or, ones_shl, ones_shr, shr_and_one}
pub use Rattle.std.specs.List.{list_any, prefix_len, range_with_len, flat_map}
pub use Rattle.std.specs.Prelude.{◌<◌, All, Bool, List, None, Option, Some, [], bit_and, bit_or, cond, count_ones, drop, false, filter, find, length, map, max, min, nat_le, nat_lt, not, option_map, replicate, slice_index, suc, sum_by, take, take_while, true, zero, ◌%◌, ◌&&◌, ◌*◌, ◌++◌, ◌+◌, ◌-◌, ◌/◌, ◌==◌, ◌^◌, ◌||◌, ◌∷◌, ◌≡◌, ◌≢◌, ◌≤◌, if◌then◌else◌}
pub use Rattle.lines.specs.Directory.{Layout, byte_count, length_of, page_count, start_of, fine_among}
pub use Rattle.lines.specs.Legal.{AreFlags, IsInRange, AreSegmentsLegal, fault_after, fault_of, flag_count, flagged_fault, is_strange}
pub use Rattle.lines.specs.LineBits.{bits-shifted, bits-told, is_on}
pub use Rattle.lines.specs.LineSets.{IsOfPage, between, bits_of, difference, lines_of_bits, lines_where, union}
unfoldable pub use Rattle.lines.specs.LineSets.{passing}
pub use Rattle.lines.specs.Segments.{bytes_of, is_named, line_bytes, page_bytes}
pub use Rattle.lines.specs.declared.line_geometry.DirectoryFault.TheVariants.{Flag, Order, Range, TooMany}
pub use Rattle.lines.specs.declared.line_geometry.PageSize.{PageSize}
pub use Rattle.lines.specs.declared.line_geometry.PageSize.TheVariants.{Four, Two}
pub use Rattle.std.proofs.lemmas.Grind.{common_steps}
pub use Rattle.std.proofs.lemmas.Bool.{and_from, and_left, and_parts, and_right, both_ways, cases_Bool, cond-false, cond-true, eq-eqb, eqb-true, not_from_false, or_cases, or_from, or_left, or_right, eqb-false, cases_lt}
pub use Rattle.lines.specs.Conflicts.{Lines, both, coarse_pages, conflicts, is_whole_page, lines_of_page, page_of_line, pages_of, with_whole_pages, within_page}
pub use Rattle.lines.specs.Sets.{distinct, has, meets, size}
pub use Rattle.lines.specs.Waits.{leads, next_shown, shown_after, shown_cycle, victim_of}
