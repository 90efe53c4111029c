-- The statement of a line.
use Rattle.std.specs.Prelude.{ℕ, nat_eq, not, if◌then◌else◌, Bool, true, false, List, [], ◌∷◌, codes, Option, Some, None, Result, Ok, Err}
use Rattle.std.specs.List.{starts_with}
use Rattle.std.specs.Option.{option_map, option_map_or}
use Rattle.std.specs.Str.{bytes_eq}
use Rattle.romp_table.specs.Names.{op_named}
use Rattle.romp_table.specs.declared.inst.Op.{Op}
use Rattle.asm_parse.specs.declared.token.Token.{Token}
use Rattle.asm_parse.specs.declared.token.Token.TheVariants as token
use Rattle.asm_parse.specs.declared.statement.Statement.{Statement}
use Rattle.asm_parse.specs.declared.statement.Body.{Body}
use Rattle.asm_parse.specs.declared.statement.Body.TheVariants.{Nothing, Inst, Data, Space, Window, Entry, Export}
use Rattle.asm_parse.specs.Form.{form_of, sorts_of}
use Rattle.asm_parse.specs.Operand.{expression_of, operands_of}
use Rattle.asm_parse.specs.Token.{tokens}

-- whether a word may be a label: it doesn't begin with `.`
abbrev pub is_label : List ℕ → Bool
is_label word = not (starts_with nat_eq word (codes "."))

-- the label that tokens begin with: a word and `:`
abbrev pub label_of : List Token → Option (List ℕ)
label_of (token.Word word ∷ token.Colon ∷ rest) = if is_label word then Some word else None
label_of _ = None

-- the tokens behind the label
abbrev pub behind_label : List Token → List Token
behind_label (token.Word word ∷ token.Colon ∷ rest) = if is_label word then rest else token.Word word ∷ token.Colon ∷ rest
behind_label others = others

-- what operands give, where they are as they must be; otherwise kind 3
abbrev pub operands_needed : Option Body → Result Body ℕ
operands_needed (Some body) = Ok body
operands_needed None = Err 3

-- an instruction with its operands
abbrev pub instruction_of : Op → List Token → Result Body ℕ
instruction_of op written =
    operands_needed (option_map (λ operands. Inst op (record { items = operands })) (operands_of (sorts_of (form_of op)) (Some written)))

-- one number
abbrev pub space_of : List Token → Option Body
space_of (token.Number number ∷ []) = Some (Space number)
space_of _ = None

-- one word
abbrev pub export_of : List Token → Option Body
export_of (token.Word word ∷ []) = Some (Export word)
export_of _ = None

-- whether a window is also to write: `r` or `rw`
abbrev pub window_writes : List ℕ → Option Bool
window_writes word = if bytes_eq word (codes "r") then Some false else if bytes_eq word (codes "rw") then Some true else None

-- a register's number, a segment's number and the access, with commas between them
abbrev pub window_of : List Token → Option Body
window_of (token.Number register ∷ token.Comma ∷ token.Number segment ∷ token.Comma ∷ token.Word word ∷ []) =
    option_map (Window register segment) (window_writes word)
window_of _ = None

-- a statement that is no instruction, by its word; any other word is kind 2
abbrev pub directive_of : List ℕ → List Token → Result Body ℕ
directive_of word operands =
    if bytes_eq word (codes ".word") then operands_needed (option_map (Data 4) (expression_of operands))
    else if bytes_eq word (codes ".half") then operands_needed (option_map (Data 2) (expression_of operands))
    else if bytes_eq word (codes ".byte") then operands_needed (option_map (Data 1) (expression_of operands))
    else if bytes_eq word (codes ".space") then operands_needed (space_of operands)
    else if bytes_eq word (codes ".window") then operands_needed (window_of operands)
    else if bytes_eq word (codes ".entry") then operands_needed (option_map Entry (expression_of operands))
    else if bytes_eq word (codes ".export") then operands_needed (export_of operands)
    else Err 2

-- a statement by its word
abbrev pub named_body : List ℕ → List Token → Result Body ℕ
named_body word operands = option_map_or (λ op. instruction_of op operands) (op_named word) (directive_of word operands)

-- what tokens say behind a label: nothing, or a statement that begins with its word; anything else in its place is kind 2
abbrev pub body_of : List Token → Result Body ℕ
body_of [] = Ok Nothing
body_of (token.Word word ∷ operands) = named_body word operands
body_of _ = Err 2

-- a statement on a line with this number
abbrev pub on_line : ℕ → Option (List ℕ) → Result Body ℕ → Result (Option Statement) ℕ
on_line number label (Ok body) = Ok (Some (record { line = number; label = label; body = body }))
on_line number label (Err kind) = Err kind

-- the statement of a line's tokens; a line without tokens has none
abbrev pub statement_of : ℕ → List Token → Result (Option Statement) ℕ
statement_of number [] = Ok None
statement_of number (first ∷ rest) = on_line number (label_of (first ∷ rest)) (body_of (behind_label (first ∷ rest)))

-- the statement of tokens, if there are no bad ones
abbrev pub statement_by : ℕ → Result (List Token) ℕ → Result (Option Statement) ℕ
statement_by number (Ok found) = statement_of number found
statement_by number (Err kind) = Err kind

-- what a line means, by its number and its bytes: no statement, a statement, or the kind of its fault, 1 to 4
abbrev pub line_meaning : ℕ → List ℕ → Result (Option Statement) ℕ
line_meaning number line = statement_by number (tokens line)
