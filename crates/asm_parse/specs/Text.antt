-- The statements of a text.
use Rattle.std.specs.Prelude.{◌≡◌, ℕ, ◌+◌, ◌==◌, Bool, List, [], ◌∷◌, ◌++◌, Option, Some, None, Result, Ok, Err}
use Rattle.std.specs.List.{slice_split}
use Rattle.asm_parse.specs.declared.asm_fault.LineFault.{LineFault}
use Rattle.asm_parse.specs.declared.statement.Statement.{Statement}
use Rattle.asm_parse.specs.Answers.{IsFaultOf}
use Rattle.asm_parse.specs.Statement.{line_meaning}

-- a line's answer, with its line where it is a fault
abbrev pub at_line : {A : Type 0} → ℕ → Result A ℕ → Result A (ℕ × ℕ)
at_line number (Ok value) = Ok value
at_line number (Err kind) = Err (number, kind)

-- a list of statements gains the one of a line, if the line has one
abbrev pub Gains : {E : Type 0} → List Statement → List Statement → Result (Option Statement) E → Type 0
Gains old new (Ok (Some statement)) = new ≡ old ++ statement ∷ []
Gains old new (Ok None) = new ≡ old
Gains old new (Err fault) = ⊥

-- the answer to an appending: the list gains the statement of this reading, or the fault is the reading's and the list stays
abbrev pub Adds : {A : Type 0} → Result A LineFault → List Statement → List Statement → Result (Option Statement) ℕ → Type 0
Adds (Ok _) old new reading = Gains old new reading
Adds (Err fault) old new reading = IsFaultOf fault reading × (new ≡ old)

-- whether a byte is a line feed
abbrev pub is_feed : ℕ → Bool
is_feed byte = byte == 10

-- the lines of a text, between its line feeds; what stands behind the last one is a line too
abbrev pub text_lines : List ℕ → List (List ℕ)
text_lines text = slice_split is_feed text

-- what a line means, before the statements of the lines behind it; a fault is told with its line
abbrev pub then_statements : ℕ → Result (Option Statement) ℕ → Result (List Statement) (ℕ × ℕ) → Result (List Statement) (ℕ × ℕ)
then_statements number (Ok None) others = others
then_statements number (Ok (Some statement)) (Ok statements) = Ok (statement ∷ statements)
then_statements number (Ok (Some statement)) (Err fault) = Err fault
then_statements number (Err kind) others = Err (number, kind)

-- the statements of lines, of which the first has this number, or the first line that has a fault, and its kind
unfoldable pub statements_from : ℕ → List (List ℕ) → Result (List Statement) (ℕ × ℕ)
statements_from number [] = Ok []
statements_from number (line ∷ lines) = then_statements number (line_meaning number line) (statements_from (number + 1) lines)

-- the statements of a text, or its first line that has a fault of kinds 1 to 4, and its kind
abbrev pub parsed : List ℕ → Result (List Statement) (ℕ × ℕ)
parsed text = statements_from 1 (text_lines text)
