-- The names that most proofs cite, passed on from one place. Declares nothing.
pub use Rattle.std.proofs.Common.{Bool, Bor, Decides, Err, List, None, Ok, Option, Result, Some, [], add-one, ap, append-nil, append_assoc, arith, codes, cond, decimal, drop, false, get_or, if◌then◌else◌, length, length-append, length-drop, map, nat_eq, nat_le, nat_lt, not, pos, position, refl, subst, suc, sym, take, true, zero, ℕ, ◌&&◌, ◌*◌, ◌++◌, ◌+◌, ◌<◌, ◌==◌, ◌^◌, ◌||◌, ◌∙◌, ◌∷◌, ◌≡◌, ◌≢◌, ◌≤◌, rules}
pub use Rattle.std.proofs.Math.Seq.{drop-cons, get_or-append_seam}
pub use Rattle.std.proofs.lemmas.Bool.{and_parts, le-leb, lt-ltb, cond_both}
pub use Rattle.std.proofs.lemmas.Bool.Decides.{Decides-and, Decides-ltb, nat_tests}
pub use Rattle.std.proofs.lemmas.Int.Digits.{digits_more, digits_value_more}
pub use Rattle.std.proofs.lemmas.List.{drop_at, get_or_append_left, length-map, take_all, take_at, length-take}
pub use Rattle.std.specs.Char.{digit_value, is_ascii_alphanumeric, is_ascii_digit, is_digit}
pub use Rattle.std.specs.List.{AllByRecursion, after_first, before_first, list_all, position_or_len, prefix_len, slice_split, starts_with, take_while}
pub use Rattle.std.specs.Option.{SomeIff, option_map}
pub use Rattle.std.specs.Str.{IsAscii, bytes_eq}
pub use Rattle.std.specs.Str.Parse.{AllDigits, digits_value}
pub use Rattle.asm_parse.specs.Number.{radix_number, literal_number}
pub use Rattle.asm_parse.specs.Operand.{operands_of, displacement_of, expression_of, is_comma, named_among, operand_of}
pub use Rattle.asm_parse.specs.Statement.{body_of, line_meaning, statement_of, on_line, directive_of, export_of, named_body, space_of, statement_by, window_of}
pub use Rattle.asm_parse.specs.Text.{Gains, is_feed, text_lines, parsed, then_statements}
unfoldable pub use Rattle.asm_parse.specs.Text.{statements_from}
pub use Rattle.asm_parse.specs.Token.{token_before, begin_at, begins_word, continues_word, is_blank, kept_tokens, mark_begins, more_of, number_begins, then_tokens, tokens, word_begins}
unfoldable pub use Rattle.asm_parse.specs.Token.{tokens_past}
pub use Rattle.asm_parse.specs.declared.statement.Body.TheVariants.{Data, Entry, Nothing, Window}
pub use Rattle.asm_parse.specs.declared.statement.Statement.{Statement}
pub use Rattle.asm_parse.specs.declared.token.Begin.{Begin}
pub use Rattle.asm_parse.specs.declared.token.Begin.TheVariants.{Bad, Blank, Comment, Takes}
pub use Rattle.asm_parse.specs.declared.token.Token.{Token}
pub use Rattle.asm_parse.specs.declared.token.Token.TheVariants.{Close, Colon, Comma, Minus, Number, Open, Plus, Word}
pub use Rattle.std.proofs.lemmas.Grind.{common_steps, elements}
pub use Rattle.asm_parse.specs.Cut.{behind_first}
pub use Rattle.asm_parse.specs.declared.form.Sort.{Sort}
pub use Rattle.asm_parse.specs.declared.statement.Body.{Body}
pub use Rattle.asm_parse.specs.declared.statement.Operand.{Operand}
pub use Rattle.romp_table.specs.Names.{mnemonic, op_named}
