-- The names that most proofs cite, passed on from one place. Declares nothing.
pub use Rattle.std.proofs.Common.{List, [], add-zero, ap, append_assoc, arith, drop, get_or, length, length-append, length-drop, refl, rules, subst, suc, sym, take, zero, ℕ, ⊎_elim, ◌*◌, ◌++◌, ◌+◌, ◌<◌, ◌∙◌, ◌∷◌, ◌≡◌, ◌≤◌}
pub use Rattle.std.proofs.lemmas.List.{drop-append-le, drop-drop, flat_map_more, take-append-drop, take-append-le, take_all, take_more}
pub use Rattle.std.proofs.lemmas.List.FromFn.{get_or-enumerate_from, get_or-range_with_len, length-enumerate_from, length-range_with_len}
pub use Rattle.std.specs.Int.{div_ceil}
pub use Rattle.std.specs.List.{enumerate_from, flat_map, range_with_len}
pub use Rattle.std.specs.Prelude.{Err, IsErr, IsSome, None, Ok, Option, Result, Some, count_by, is_some, codes, replicate, true}
pub use Rattle.listing.specs.Listing.{place_line, program_line, row_line, row_lines, window_lines, listing_of}
pub use Rattle.listing.specs.BytesPut.{PrintsBytes, PutsTimes}
