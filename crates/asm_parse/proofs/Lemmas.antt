-- The lemmas of this crate that several of its functions' proofs cite, passed on from one place. Declares nothing.
pub use Rattle.asm_parse.proofs.Common.{Bad, Blank, Bor, Comment, Err, List, Some, Takes, ap, append-nil, arith, bytes_eq, common_steps, digit_value, digits_more, digits_value_more, drop, is_feed, kept_tokens, length, line_meaning, operands_of, option_map, parsed, rules, statements_from, subst, sym, tokens_past, ℕ, ◌*◌, ◌+◌, ◌∙◌, ◌≡◌, ◌≤◌, AllByRecursion, AllDigits, Begin, Body, Bool, Close, Colon, Comma, Minus, None, Number, Ok, Open, Operand, Option, Plus, Result, Sort, Token, Word, [], before_first, begin_at, begins_word, behind_first, body_of, codes, continues_word, decimal, digits_value, directive_of, displacement_of, drop_at, export_of, expression_of, false, is_ascii_alphanumeric, is_comma, le-leb, length-drop, length-take, list_all, literal_number, mark_begins, more_of, named_among, named_body, nat_eq, nat_le, nat_tests, number_begins, op_named, operand_of, prefix_len, radix_number, refl, space_of, starts_with, statement_by, statement_of, suc, take, take_all, take_at, take_while, then_tokens, token_before, tokens, true, window_of, word_begins, zero, ◌++◌, ◌<◌, ◌^◌, ◌∷◌}
pub use Rattle.asm_parse.proofs.NumberLemmas.{all_taken, as_number, digit_at, value_so_far}
pub use Rattle.asm_parse.proofs.OperandLemmas.{operands_behind, position_mapped, stopped}
pub use Rattle.asm_parse.proofs.TextLemmas.{all_read, behind_shorter, gained_one, left_of, line_faulty, line_read, parts_behind, statements_behind}
pub use Rattle.asm_parse.proofs.TokenLemmas.{begins_with_digit, begins_with_word, behind, behind_all, behind_full, behind_none, found_kept, number_inside, pushed, pushed_few, step, word_ascii, word_inside, Stops, from_byte, run_length, taken_pass}
