-- The names that most proofs cite, passed on from one place. Declares nothing.
pub use Rattle.std.proofs.Common.{Bool, Err, List, None, Ok, Option, Result, Some, [], add-one, ap, append-nil, append_assoc, arith, codes, cond, decimal, drop, false, get_or, if◌then◌else◌, inl, inr, is_some, length, length-append, map, min, nat_eq, nat_le, nat_lt, not, pos, refl, rules, slice_index_or, subst, suc, sum_by, sym, take, true, zero, ℕ, ◌%◌, ◌&&◌, ◌*◌, ◌++◌, ◌+◌, ◌-◌, ◌<◌, ◌==◌, ◌^◌, ◌||◌, ◌∙◌, ◌∷◌, ◌≡◌, ◌≤◌, ◌⊎◌, Bor}
pub use Rattle.std.proofs.lemmas.Bool.{and_parts, false_from_ne_true, le-leb, lt-ltb, cond_both}
pub use Rattle.std.proofs.lemmas.Bool.Decides.{nat_tests}
pub use Rattle.std.proofs.lemmas.Grind.{common_steps, flat_map-append}
pub use Rattle.std.proofs.lemmas.List.{length-map, map-append, take_all, map-id}
pub use Rattle.std.proofs.lemmas.List.Elements.{All-append, All-cons, All-from_recursion, All-map, All-nil, recursion_from_All}
pub use Rattle.std.proofs.lemmas.List.Quantifiers.{position-Some}
pub use Rattle.std.proofs.lemmas.Slice.Eq.{bytes_eq-Decides}
pub use Rattle.std.proofs.lemmas.Slice.Zip.{length-zip, zip_end, zip_turn}
pub use Rattle.std.specs.Char.{is_ascii_alphabetic, is_ascii_alphanumeric}
pub use Rattle.std.specs.Int.{from_be_bytes, w32}
pub use Rattle.std.specs.List.{All, AllByRecursion, AllZip, after_first, before_first, flat_map, list_all, position_or_len, range_with_len, zip}
pub use Rattle.std.specs.Str.{bytes_eq}
pub use Rattle.arrayvec.specs.ArrayVec.{ArrayVec}
pub use Rattle.asm_parse.proofs.FrontLemmas.{found_tokens, IsToken, IsWord, blank_front, mark_front, number_front, number_pass, word_front}
pub use Rattle.asm_parse.specs.Operand.{place_among}
pub use Rattle.asm_parse.specs.Statement.{is_label, line_meaning, statement_of}
pub use Rattle.asm_parse.specs.Text.{at_line, is_feed, text_lines, then_statements}
unfoldable pub use Rattle.asm_parse.specs.Text.{statements_from}
pub use Rattle.asm_parse.specs.Token.{token_before, begins_word, continues_word, kept_tokens, tokens}
unfoldable pub use Rattle.asm_parse.specs.Token.{tokens_past}
pub use Rattle.asm_parse.specs.declared.statement.Statement.{Statement}
pub use Rattle.asm_parse.specs.declared.token.Token.{Token}
pub use Rattle.asm_parse.specs.declared.token.Token.TheVariants.{Close, Colon, Comma, Minus, Number, Open, Plus, Word}
pub use Rattle.desk.specs.declared.event.Event.{Event}
pub use Rattle.desk.specs.declared.event.Event.TheVariants.{Begin, Checkpoint, Crash, Turn}
pub use Rattle.romp_asm.proofs.MadeLemmas.{IsByte, IsLegalPlace, byte_body, image_bodies, made, plain_at, source_bodies, source_made, window_bodies, word_small}
pub use Rattle.romp_asm.proofs.WindowLemmas.{assembled_windows}
pub use Rattle.romp_asm.specs.Layout.{Parts, parts_of}
unfoldable pub use Rattle.romp_asm.specs.Layout.{image_behind}
pub use Rattle.romp_asm.proofs.ExportLemmas.{linked_alone, linked_made}
pub use Rattle.romp_asm.specs.Linked.{exported, linked}
unfoldable pub use Rattle.romp_asm.specs.Linked.{fault_among, fault_behind}
pub use Rattle.job_text.specs.Big.{account_of, batch, batches, big_events, big_sources, move_of, other_of, transfer, turns_of}
pub use Rattle.job_text.specs.Form.{AreBlank, FaultsEndTheReading, HasEvents, HasPrograms, HasSources, HaveNoMark, IsBeginLine, IsBlank, IsDrain, IsEventLine, IsFramesLine, IsJobText, IsLimit, IsNoBegin, IsOnly, IsProgram, IsSingle, IsTurn}
pub use Rattle.job_text.specs.Grammar.{Content, content_of, job_of, last_part, then_read, whole_job}
unfoldable pub use Rattle.job_text.specs.Grammar.{read_from}
pub use Rattle.job_text.specs.JobAnswers.{IsJobAnswer, IsJobFaultOf}
pub use Rattle.job_text.specs.Reader.{held, reading_of, tokens_read}
pub use Rattle.job_text.specs.Reading.{Reading, begin_line, begin_of, by_tokens, drain_line, ended_line, four_of, frames_line, is_end, is_limit, is_part, line_read, nothing_read, program_begins, program_ends, programs_line, schedule_line, single_line, source_ends, source_goes_on, source_line, sources_of, turn_line, values_of, with_event}
unfoldable pub use Rattle.job_text.specs.Reading.{rounds_of, turns_to}
pub use Rattle.job_text.specs.Ready.{IsEventAmong, IsName, IsReady}
pub use Rattle.job_text.specs.Written.{AreBytes, access_text, behind_text, end_line, event_line, head_lines, image_lines, job_lines, token_line, number_line, program_lines, token_text, tokens_text, window_tokens, windows_tokens, job_written}
pub use Rattle.job_text.specs.declared.job.Job.{Job}
pub use Rattle.job_text.specs.declared.job.JobFault.{JobFault}
pub use Rattle.job_text.specs.declared.stage.Stage.{Stage}
pub use Rattle.job_text.specs.declared.stage.Stage.TheVariants.{Ended, Frames, Programs, Schedule, Source}
