-- The tokens of a line.
use Rattle.std.specs.Prelude.{ℕ, zero, suc, nat_le, ◌==◌, ◌||◌, if◌then◌else◌, Bool, List, [], ◌∷◌, length, take, take_while, Option, Some, None, Result, Ok, Err}
use Rattle.std.specs.List.{prefix_len}
use Rattle.std.specs.Char.{is_ascii_alphabetic, is_ascii_alphanumeric, is_ascii_digit}
use Rattle.asm_parse.specs.Number.{literal_number}
use Rattle.asm_parse.specs.declared.token.Token.{Token}
use Rattle.asm_parse.specs.declared.token.Token.TheVariants.{Word, Number, Comma, Open, Close, Colon, Plus, Minus}
use Rattle.asm_parse.specs.declared.token.Begin.{Begin}
use Rattle.asm_parse.specs.declared.token.Begin.TheVariants.{Blank, Comment, Takes, Bad}

-- a space, a tab or a carriage return
abbrev pub is_blank : ℕ → Bool
is_blank byte = byte == 32 || byte == 9 || byte == 13

-- a letter, `_` or `.`
abbrev pub begins_word : ℕ → Bool
begins_word byte = is_ascii_alphabetic byte || byte == 95 || byte == 46

-- a letter, a digit or `_`
abbrev pub continues_word : ℕ → Bool
continues_word byte = is_ascii_alphanumeric byte || byte == 95

-- a word with so many bytes behind the first; one of more than 31 bytes is bad
abbrev pub word_begins : ℕ → List ℕ → Begin
word_begins more bytes = if nat_le (length bytes) 31 then Takes (Word bytes) more else Bad 1

-- the token of a run of letters and digits that begins with a digit; one that writes no number is bad
abbrev pub number_begins : ℕ → Option ℕ → Begin
number_begins more (Some number) = Takes (Number number) more
number_begins more None = Bad 4

-- the token of one character; any other is bad
abbrev pub mark_begins : ℕ → Begin
mark_begins byte =
    if byte == 44 then Takes Comma 0
    else if byte == 40 then Takes Open 0
    else if byte == 41 then Takes Close 0
    else if byte == 58 then Takes Colon 0
    else if byte == 43 then Takes Plus 0
    else if byte == 45 then Takes Minus 0
    else Bad 1

-- what begins at a byte that others follow; `;` begins a comment
abbrev pub begin_at : ℕ → List ℕ → Begin
begin_at byte rest =
    if is_blank byte then Blank
    else if byte == 59 then Comment
    else if begins_word byte then word_begins (prefix_len continues_word rest) (byte ∷ take_while continues_word rest)
    else if is_ascii_digit byte
    then number_begins (prefix_len is_ascii_alphanumeric rest) (literal_number (byte ∷ take_while is_ascii_alphanumeric rest))
    else mark_begins byte

-- how many bytes behind the first belong to what begins
abbrev pub more_of : Begin → ℕ
more_of Blank = 0
more_of Comment = 0
more_of (Takes token more) = more
more_of (Bad kind) = 0

-- a token before others
abbrev pub token_before : Token → Result (List Token) ℕ → Result (List Token) ℕ
token_before token (Ok tokens) = Ok (token ∷ tokens)
token_before token (Err kind) = Err kind

-- what begins, and the tokens behind it
abbrev pub then_tokens : Begin → Result (List Token) ℕ → Result (List Token) ℕ
then_tokens Blank others = others
then_tokens Comment others = Ok []
then_tokens (Takes token more) others = token_before token others
then_tokens (Bad kind) others = Err kind

-- the tokens behind the first so many bytes, or the kind of the first token that is bad
unfoldable pub tokens_past : List ℕ → ℕ → Result (List Token) ℕ
tokens_past [] passed = Ok []
tokens_past (byte ∷ rest) (suc passed) = tokens_past rest passed
tokens_past (byte ∷ rest) zero = then_tokens (begin_at byte rest) (tokens_past rest (more_of (begin_at byte rest)))

-- the tokens of a line, or the kind of the first that is bad
abbrev pub tokens : List ℕ → Result (List Token) ℕ
tokens line = tokens_past line 0

-- the tokens that are kept of a line: with more than 64 it means what the first 64 do
abbrev pub kept_tokens : Result (List Token) ℕ → Result (List Token) ℕ
kept_tokens (Ok found) = Ok (take 64 found)
kept_tokens (Err kind) = Err kind
