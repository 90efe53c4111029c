-- The lemmas of this crate that several of its functions' proofs cite, passed on from one place. Declares nothing.
pub use Rattle.romp_asm.proofs.Common.{AreAlone, AreTables, IsTable, LaidTo, List, Statement, Use, [], addresses_in, ap, append-nil, arith, common_steps, drop, err_from_is_err_and, get_or, knowns_of, le-leb, length, place_from, refl, size_of, stated, subst, sum_by, sum_by-take-le, sum_by_push, sym, take, take_all, take_more, to_z-of_z, total_size, w32, w8, ℕ, ◌++◌, ◌+◌, ◌∙◌, ◌∷◌, ◌≡◌, ◌≤◌, nat_tests}
pub use Rattle.romp_asm.proofs.LayoutLemmas.{laid_all, laid_none, source_fault, source_laid, source_more, text_as_itself}
pub use Rattle.romp_asm.proofs.LegalLemmas.{inst_made, legal, scale_some}
pub use Rattle.romp_asm.proofs.SourcesLemmas.{alone_of, laid_to, left_from, reads_source, tables_more}
pub use Rattle.romp_asm.proofs.ValueLemmas.{alone_more, or_none, knowns_behind, no_place, place_more, signed_same, total_more}
