-- The names that most proofs cite, passed on from one place. Declares nothing.
pub use Rattle.std.proofs.Common.{ap, arith, inl, inr, lit<, lit≤, subst, sym, ◌∙◌, Err, IfOk, Ok, Result, get_or, rules}
pub use Rattle.std.proofs.lemmas.Bool.{both_ways, cases_lt, leb-true, or_cases, or_parts}
pub use Rattle.std.proofs.lemmas.Grind.{flat_map-append, same_number_lists, common_steps}
pub use Rattle.std.proofs.lemmas.List.{append-nil, get_or-drop, get_or-take, length-drop, length-take, nil_from_length, take_more, drop-drop}
pub use Rattle.std.proofs.lemmas.Nat.{div-add-mod', div-mul-add, le-div}
pub use Rattle.std.proofs.lemmas.Option.{none-some, option_and_then_some, same_Some}
pub use Rattle.std.specs.List.{flat_map, range_with_len}
pub use Rattle.std.specs.Prelude.{Bool, List, None, Option, Some, [], drop, false, if◌then◌else◌, length, map, nat_le, nat_lt, option_and_then, option_map, refl, replicate, slice_index, slice_set, suc, take, true, zero, ℕ, ◌&&◌, ◌++◌, ◌+◌, ◌-◌, ◌<◌, ◌∷◌, ◌≡◌, ◌≤◌, ◌⊎◌, cond, not, pos, slice_index_or, slice_range, ◌%◌, ◌*ℤ◌, ◌*◌, ◌/◌, ◌^◌}
pub use Rattle.byteorder.specs.Endian.{big_bytes, big_number}
pub use Rattle.byteorder.specs.Numbers.{length-bytes_high_first}
pub use Rattle.lines.proofs.WithinLemmas.{line-below, line-bytes-pos, segment-within}
pub use Rattle.lines.specs.Directory.{Layout, byte_count, is_fine_page, length_of, start_of}
pub use Rattle.lines.specs.FlatStore.{FlatStore, IsWholeStore}
pub use Rattle.lines.specs.declared.line_geometry.PageSize.TheVariants.{Two}
pub use Rattle.lines.proofs.SetLemmas.{has-append, has-range, has_left, has_right, in_range}
pub use Rattle.lines.specs.Conflicts.{Lines, both, no_lines, with_whole_pages}
pub use Rattle.lines.specs.Sets.{has}
pub use Rattle.lines.proofs.OverlayLemmas.{length-overlaid, overlaid_before, overlaid_behind, overlaid_both}
pub use Rattle.lines.specs.Overlay.{overlaid}
unfoldable pub use Rattle.romp_table.specs.Decode.{row_numbered}
pub use Rattle.flat_machine.specs.Access.{LiesWithin}
pub use Rattle.flat_machine.specs.After.{after, clear, next_state, start}
pub use Rattle.flat_machine.specs.Agreement.{AgreeBut, AgreeOn, AgreementIsEnough, DoesTheSame, SameWay, all_of, flat_line}
pub use Rattle.flat_machine.specs.Effect.{fill_words, filled, worked}
pub use Rattle.flat_machine.specs.Row.{Check, Commit, On, Outcome, acts, halfword, in_register, in_segment, in_window, loads, located, moved, plan_at, row, row_by, stored_bytes, stores, with_link, plan_alone}
pub use Rattle.flat_machine.specs.Serial.{Activation, before_commit, committing, if_commit, numbered, serial}
pub use Rattle.flat_machine.specs.Touched.{lines_at, lines_of_act, touched, touched_by}
pub use Rattle.flat_machine.specs.declared.machine.Act.{Act}
pub use Rattle.flat_machine.specs.declared.machine.Cs.{Cs}
pub use Rattle.flat_machine.specs.declared.machine.Located.{Located}
pub use Rattle.flat_machine.specs.declared.machine.Located.TheVariants.{Private, Refused, Shared}
pub use Rattle.flat_machine.specs.declared.machine.Plain.{Plain}
pub use Rattle.flat_machine.specs.Plans.{Plan, Does, Fails, Work}
pub use Rattle.flat_machine.specs.declared.machine.Program.{Program}
pub use Rattle.flat_machine.specs.Branches.{target}
pub use Rattle.flat_machine.specs.declared.ready.Ready.{Ready}
