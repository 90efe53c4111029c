-- The lemmas of this crate that several of its functions' proofs cite, passed on from one place. Declares nothing.
pub use Rattle.report_text.proofs.Common.{All, All-push, ReportLine, commit_told, first_word, map-append, option_to_list, words_behind, MayBePut, AllByRecursion, IsWholeLine, List, [], ap, append-nil, arith, decimal, empty_is, filter, filter-append, flat_map, inl, inr, is_commit, join_with_byte, length, length-append, line_text, line_told, map, printed, refl, some_is, sym, ℕ, ◌++◌, ◌<◌, ◌^◌, ◌∙◌, ◌∷◌, ◌≡◌, ◌≢◌}
pub use Rattle.report_text.proofs.LineLemmas.{bytes_more, fewer, no_line, not_both, up_to_feed, without_feed}
pub use Rattle.report_text.proofs.PartLemmas.{Left, address_is, all_listed, decoded, name_word, number_word, one_more, undecoded}
