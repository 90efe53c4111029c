-- The names that most proofs cite, passed on from one place. Declares nothing.
pub use Rattle.std.proofs.Common.{Bool, Err, List, MatchResult, None, Ok, Some, [], ap, append-nil, append_assoc, arith, codes, decimal, drop, false, filter, get_or, inl, inr, length, length-append, map, nat_lt, not, position, refl, sym, take, true, ℕ, ◌%◌, ◌*◌, ◌++◌, ◌+◌, ◌-◌, ◌/◌, ◌<◌, ◌==◌, ◌^◌, ◌||◌, ◌∙◌, ◌∷◌, ◌≡◌, ◌≢◌, ◌≤◌}
pub use Rattle.std.proofs.lemmas.Bool.{lt-ltb}
pub use Rattle.std.proofs.lemmas.Bool.Decides.{nat_tests}
pub use Rattle.std.proofs.lemmas.List.{drop_at, map-append, take_at}
pub use Rattle.std.proofs.lemmas.List.Elements.{All-get_or, All-push, filter-append, recursion_from_All}
pub use Rattle.std.specs.Option.{option_to_list}
pub use Rattle.std.specs.List.{All, AllByRecursion, flat_map, join_with_byte, list_all, prefix_len}
pub use Rattle.asm_parse.proofs.TokenLemmas.{each_also, run_length}
pub use Rattle.byteorder.specs.Endian.{big_bytes, big_number}
pub use Rattle.desk.specs.Commits.{is_commit}
pub use Rattle.desk.specs.ReportLines.{Begin, Busy, Check, Closed, Commit, Cycle, Disk, Doubt, End, Idle, Journal, Left, ReportLine, Lost, NoSegment, Open, Stored, Turn, Victim, Wait, line_text, printed}
pub use Rattle.hex.specs.Hex.{IsBytes, decode_of, decode_sized, encode_lower, lower_digits}
pub use Rattle.text_line.proofs.Bytes.{each_byte, empty_is, some_is}
pub use Rattle.report_text.specs.Line.{commit_told, line_told}
pub use Rattle.report_text.specs.ReadLines.{MayBePut, IsWholeLine, TellsCommit}
pub use Rattle.report_text.specs.Words.{IsOneWord, is_line_feed, is_space, first_word, words_behind, bytes_printed, numbers_in}
