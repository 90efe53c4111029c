-- The operands of an instruction.
use Rattle.std.specs.Prelude.{ℕ, pos, neg_ℤ, ◌-◌, Bool, true, false, List, [], ◌∷◌, length, take, drop, codes, position, Option, Some, None, option_and_then}
use Rattle.std.specs.List.{before_first}
use Rattle.std.specs.Option.{option_map}
use Rattle.std.specs.Str.{bytes_eq}
use Rattle.asm_parse.specs.Cut.{behind_first}
use Rattle.asm_parse.specs.declared.token.Token.{Token}
use Rattle.asm_parse.specs.declared.token.Token.TheVariants as token
use Rattle.asm_parse.specs.declared.form.Sort.{Sort}
use Rattle.asm_parse.specs.declared.form.Sort.TheVariants as sort
use Rattle.asm_parse.specs.declared.statement.Operand.{Operand}
use Rattle.asm_parse.specs.declared.statement.Operand.TheVariants as operand
use Rattle.asm_parse.specs.declared.statement.Expr.{Expr}

-- the registers, in the order of their numbers
abbrev pub register_names : List (List ℕ)
register_names =
    codes "r0" ∷ codes "r1" ∷ codes "r2" ∷ codes "r3" ∷ codes "r4" ∷ codes "r5" ∷ codes "r6" ∷ codes "r7"
    ∷ codes "r8" ∷ codes "r9" ∷ codes "r10" ∷ codes "r11" ∷ codes "r12" ∷ codes "r13" ∷ codes "r14" ∷ codes "r15" ∷ []

-- the conditions, in the order of their numbers
abbrev pub condition_names : List (List ℕ)
condition_names = codes "pz" ∷ codes "lt" ∷ codes "eq" ∷ codes "gt" ∷ codes "c0" ∷ codes "ov" ∷ []

-- the place of a word among names
abbrev pub place_among : List (List ℕ) → List ℕ → Option ℕ
place_among names word = position (λ name. bytes_eq name word) names

-- the place among names of the one word that tokens are
abbrev pub named_among : List (List ℕ) → List Token → Option ℕ
named_among names (token.Word word ∷ []) = place_among names word
named_among names _ = None

-- a number, a number with a minus, a label, or a label with a number that is added or taken away
abbrev pub expression_of : List Token → Option Expr
expression_of (token.Number number ∷ []) = Some (Expr.Number (pos number))
expression_of (token.Minus ∷ token.Number number ∷ []) = Some (Expr.Number (neg_ℤ (pos number)))
expression_of (token.Word word ∷ []) = Some (Expr.Label word (pos 0))
expression_of (token.Word word ∷ token.Plus ∷ token.Number number ∷ []) = Some (Expr.Label word (pos number))
expression_of (token.Word word ∷ token.Minus ∷ token.Number number ∷ []) = Some (Expr.Label word (neg_ℤ (pos number)))
expression_of _ = None

-- the register between `(` and `)`
abbrev pub base_register : List Token → Option ℕ
base_register (token.Open ∷ token.Word word ∷ token.Close ∷ []) = place_among register_names word
base_register _ = None

-- a displacement, and in the last three tokens the register that it is counted from
abbrev pub displacement_of : List Token → Option Operand
displacement_of tokens =
    option_and_then (λ displacement. option_map (operand.Place displacement) (base_register (drop (length tokens - 3) tokens))) (expression_of (take (length tokens - 3) tokens))

-- the operand of a sort that tokens are
abbrev pub operand_of : Sort → List Token → Option Operand
operand_of sort.Register tokens = option_map operand.Register (named_among register_names tokens)
operand_of sort.Condition tokens = option_map operand.Condition (named_among condition_names tokens)
operand_of sort.Value tokens = option_map operand.Value (expression_of tokens)
operand_of sort.Place tokens = displacement_of tokens

-- whether a token is a comma
abbrev pub is_comma : Token → Bool
is_comma token.Comma = true
is_comma _ = false

-- one operand of each sort, with a comma between two of them; no tokens are left where there are no sorts
abbrev pub operands_of : List Sort → Option (List Token) → Option (List Operand)
operands_of [] None = Some []
operands_of [] (Some tokens) = None
operands_of (sort ∷ sorts) None = None
operands_of (sort ∷ sorts) (Some tokens) =
    option_and_then (λ first. option_map (λ others. first ∷ others) (operands_of sorts (behind_first is_comma tokens)))
    (operand_of sort (before_first is_comma tokens))
