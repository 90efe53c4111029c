-- Several sources as one: each label becomes the name of its source and its word.
use Rattle.std.specs.Prelude.{ℕ, ◌+◌, if◌then◌else◌, Bool, List, [], ◌∷◌, ◌++◌, map, unwrap_or, Option}
use Rattle.romp_asm.specs.Below.{Body, Data, Entry, Export, Expr, Inst, list_any, Nothing, Operand, option_map, Space, Statement, Window}
use Rattle.asm_parse.specs.declared.statement.Operand.TheVariants as operand
use Rattle.asm_parse.specs.declared.statement.Expr.TheVariants as expr
use Rattle.romp_asm.specs.Value.{is_labelled}

-- the name of a label of the source with this number, as a word: other names are other words
abbrev pub name_in : ℕ → List ℕ → List ℕ
name_in source word = source ∷ word

-- whether a source has a label
abbrev pub defines : List Statement → List ℕ → Bool
defines statements word = list_any (is_labelled word) statements

-- the name that a word means in an expression of a source: its own label where it has it, otherwise that of the source that gives the word; where none does, a name that no statement has
abbrev pub meant : (List ℕ → Option ℕ) → ℕ → List Statement → List ℕ → List ℕ
meant giver source statements word = name_in (if defines statements word then source else unwrap_or (giver word) source) word

-- with other words for labels: an expression
abbrev pub renamed_expr : (List ℕ → List ℕ) → Expr → Expr
renamed_expr name (expr.Number number) = expr.Number number
renamed_expr name (expr.Label word more) = expr.Label (name word) more

-- an operand
abbrev pub renamed_operand : (List ℕ → List ℕ) → Operand → Operand
renamed_operand name (operand.Register register) = operand.Register register
renamed_operand name (operand.Condition condition) = operand.Condition condition
renamed_operand name (operand.Value value) = operand.Value (renamed_expr name value)
renamed_operand name (operand.Place displacement register) = operand.Place (renamed_expr name displacement) register

-- what a line says behind its label; an export is left empty
abbrev pub renamed_body : (List ℕ → List ℕ) → Body → Body
renamed_body name Nothing = Nothing
renamed_body name (Inst op operands) = Inst op (record { items = map (renamed_operand name) operands.items })
renamed_body name (Data count value) = Data count (renamed_expr name value)
renamed_body name (Space count) = Space count
renamed_body name (Window register segment write) = Window register segment write
renamed_body name (Entry value) = Entry (renamed_expr name value)
renamed_body name (Export word) = Nothing

-- a statement of a source, with names
abbrev pub named : (List ℕ → Option ℕ) → ℕ → List Statement → Statement → Statement
named giver source statements statement = record {
  line = statement.line;
  label = option_map (name_in source) statement.label;
  body = renamed_body (meant giver source statements) statement.body;
}

-- sources end to end with names, of which the first has this number, by the source that gives each word
unfoldable pub joined_from : (List ℕ → Option ℕ) → ℕ → List (List Statement) → List Statement
joined_from giver source [] = []
joined_from giver source (first ∷ others) = map (named giver source first) first ++ joined_from giver (source + 1) others

-- sources as one, by the source that gives each word to the others
abbrev pub joined : (List ℕ → Option ℕ) → List (List Statement) → List Statement
joined giver sources = joined_from giver 0 sources
