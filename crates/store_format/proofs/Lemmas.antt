-- The lemmas of this crate that several of its functions' proofs cite, passed on from one place. Declares nothing.
pub use Rattle.store_format.proofs.Checks.{first_fault-append, first_fault-cons, last_zeros_are, length-segments_at, option_or-assoc, or_first, or_is, or_second, right_segment, segments_at-more, segments_left, six_faults, wrong_identifier, wrong_pages, zeros_more}
pub use Rattle.store_format.proofs.Common.{AreFlags, Header, IfOk, AreSegmentsLegal, IsSome, Layout, List, None, Ok, Option, PageSize, Some, [], ap, arith, big_bytes, byte_count, byte_count-lines, common_steps, drop, fields, first_fault, front, header_bytes, header_of, held_of, is_some, last_zeros, length, length-replicate, length-set, min, name_field, nat_tests, number_at, option_or, page_size_of, refl, replicate, segment_fields, segments_at, segments_of, set, slice_index, spare_fields, subst, sym, take, take_more_set, total, unwrap_or, vec_len, within, zeros, ℕ, ◌*◌, ◌++◌, ◌+◌, ◌-◌, ◌<◌, ◌^◌, ◌∙◌, ◌∷◌, ◌≡◌, ◌≤◌, Area, Closed, Gate, HasHeader, IsStore, RecordLine, Sound, Which, Wrong, area_at, area_of, bank_at, bank_of, base_of, chosen, drop-drop, false, fold, gate_at, get_or-drop, holds_from, home_of, laid, stands, suc, zero, ◌%◌, ◌==◌}
pub use Rattle.store_format.proofs.Fresh.{front_zeros, stored_stands}
pub use Rattle.store_format.proofs.Padded.{number_is, padded_fault, padded_header, padded_is, read_is}
pub use Rattle.store_format.proofs.Sound.{IsSound, faulty_header, faulty_length, sound_header}
pub use Rattle.store_format.proofs.Walk.{closed_gate, has_bank, one_held, sound_is}
