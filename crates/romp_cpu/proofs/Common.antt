-- The names that most proofs cite, passed on from one place. Declares nothing.
pub use Rattle.std.proofs.Common.{ap, arith, inl, inr, subst, sym, ◌∙◌, get_or, ◌≢◌}
pub use Rattle.std.proofs.Math.ListN.{get_or-map}
pub use Rattle.std.proofs.lemmas.Bool.{cases_lt, leb-true}
pub use Rattle.std.proofs.lemmas.Bool.Decides.{nat_tests}
pub use Rattle.std.proofs.lemmas.List.{get_or-drop, get_or-take, length-append, length-drop, length-map, length-take}
pub use Rattle.std.proofs.lemmas.List.FromFn.{fill_by_all, get_or-map-range_with_len, length-map-range_with_len}
pub use Rattle.std.specs.Option.{option_map_or, option_or}
pub use Rattle.std.specs.Prelude.{All, Bool, Err, IsTrue, List, None, Ok, Option, Result, Some, [], cond, false, find, nat_le, nat_lt, not, option_map, refl, slice_index, slice_index_or, suc, true, zero, ℕ, ◌%◌, ◌&&◌, ◌+◌, ◌/◌, ◌<◌, ◌==◌, ◌^◌, ◌||◌, ◌∷◌, ◌≡◌, ◌≤◌, length, slice_range, ◌++◌}
pub use Rattle.byteorder.specs.Endian.{big_bytes, big_number}
pub use Rattle.flat_machine.specs.Pending.{IsSoundPending, StaysIfWanting, pending_of, planned, StaysIfPending}
pub use Rattle.flat_machine.specs.Row.{in_register, in_segment, in_window, plan, stored_bytes}
pub use Rattle.flat_machine.specs.declared.machine.Act.{Act}
pub use Rattle.flat_machine.specs.declared.machine.Cs.{Cs}
pub use Rattle.flat_machine.specs.declared.machine.Located.TheVariants.{Private, Refused, Shared}
pub use Rattle.flat_machine.specs.Plans.{Plan, Does, Fails}
pub use Rattle.flat_machine.specs.declared.machine.Program.{Program}
pub use Rattle.flat_machine.specs.declared.machine.Window.{Window}
pub use Rattle.lines.specs.Directory.{Layout, byte_count, length_of, start_of}
pub use Rattle.lines.specs.declared.line_geometry.PageSize.{PageSize}
pub use Rattle.lines.specs.Overlay.{overlaid}
pub use Rattle.page_table.specs.Registers.{located_by, located_under, register_at, register_of, register_with, registers_with, virtual_at}
pub use Rattle.page_table.specs.declared.segment_regs.Check.{Check}
pub use Rattle.page_table.specs.declared.segment_regs.SegmentRegister.{SegmentRegister}
pub use Rattle.page_table.specs.declared.segment_regs.Virtual.{Virtual}
pub use Rattle.romp_cpu.specs.Answers.{IsOutside, answer_in, answered, answered_at, bytes_of_range, unless_absent_at}
pub use Rattle.romp_cpu.specs.Attempts.{ChecksAlike, GivesAll, GivesBy, GivesEveryRow, GivesOver, GivesPlan, IsCpuOf, ShowsSame, StoresAll, TouchesAccess, UndoesUnlessWent, access_of, access_of_plan, bytes_in, stored_by, lines_of_access, access_place}
pub use Rattle.romp_cpu.specs.Segments.{register_of_window, registers_of_program}
pub use Rattle.romp_cpu.specs.Shown.{access_to, bytes_from, halfword_of}
pub use Rattle.romp_cpu.specs.Tried.{at, how_went, link_set, refused_by, Seen, seen_in, Tried, tried, tried_act, undone, unless_refused}
pub use Rattle.romp_cpu.specs.declared.cpu.Attempt.{Attempt}
pub use Rattle.romp_cpu.specs.declared.cpu.Cpu.{Cpu}
pub use Rattle.romp_cpu.specs.declared.storage.Access.{Access}
pub use Rattle.romp_cpu.specs.declared.storage.Probe.{Probe}
pub use Rattle.flat_machine.specs.declared.machine.Pending.{Pending}
pub use Rattle.flat_machine.specs.Ready.{IsReadyAt, done}
pub use Rattle.flat_machine.specs.declared.ready.Ready.{Ready}
