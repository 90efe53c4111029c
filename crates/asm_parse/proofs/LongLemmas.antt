-- A line of more than 64 tokens means what its first 64 do: no form of a line has as many.
use Rattle.asm_parse.proofs.Lemmas.{◌≡◌, ℕ, ◌+◌, ◌*◌, ◌<◌, ◌≤◌, nat_le, Bool, true, false, List, [], ◌∷◌, length, take, Option, Some, None, Result, Ok, Err, refl, ap, arith, nat_tests, length-drop, take_all, before_first, body_of, statement_of, line_meaning, tokens, kept_tokens, operands_of, sym, Token, length-take, op_named, behind_first, displacement_of, expression_of, is_comma, named_among, operand_of, directive_of, export_of, named_body, space_of, statement_by, window_of, Sort, Body, Operand, left_of}
use Rattle.std.specs.Prelude.{◌-◌}
use Rattle.romp_table.specs.declared.inst.Op.{Op}
use Rattle.asm_parse.specs.Form.{form_of, sorts_of}
use Rattle.asm_parse.specs.declared.form.Form.{Form}
use Rattle.asm_parse.specs.declared.statement.Expr.{Expr}

none_some : {A : Type 0} {value : A} → None ≡ Some value → ⊥
none_some is = cc is

named_few : (names : List (List ℕ)) (found : List Token) (place : ℕ) → named_among names found ≡ Some place → length found ≤ 1
named_few names found place is = grind arith

value_few : (found : List Token) (value : Expr) → expression_of found ≡ Some value → length found ≤ 3
value_few found value is = grind arith

place_few : (found : List Token) (place : Operand) → displacement_of found ≡ Some place → length found ≤ 6
place_few found place is = by_value (expression_of (take (length found - 3) found)) refl
  where
    by_value : (value : Option Expr) → expression_of (take (length found - 3) found) ≡ value → length found ≤ 6
    by_value (Some value) e = omega (arith, value_few (take (length found - 3) found) value e, length-take (length found - 3) found)
    by_value None e = absurd (none_some (rw e at is))

operand_few : (sort : Sort) (found : List Token) (operand : Operand) → operand_of sort found ≡ Some operand → length found ≤ 6
operand_few sort found operand is = grind (arith, named_few, value_few, place_few)

-- what is cut is what stands in front of the cut and what stands behind it
cut_lengths : (found : List Token) → length found ≡ length (before_first is_comma found) + left_of (behind_first is_comma found)
cut_lengths found = grind (arith, nat_tests, length-take, length-drop)

-- operands of so many sorts are at most so many tokens, with the commas
operands_few : (sorts : List Sort) (found : List Token) (operands : List Operand) → operands_of sorts (Some found) ≡ Some operands → length found + 1 ≤ 7 * length sorts
operands_few [] found operands is = absurd (none_some is)
operands_few (sort ∷ sorts) found operands is = by_first (λ rest others. operands_few sorts rest others) (operand_of sort (before_first is_comma found)) refl (behind_first is_comma found) refl
  where
    by_first : ((rest : List Token) (others : List Operand) → operands_of sorts (Some rest) ≡ Some others → length rest + 1 ≤ 7 * length sorts)
        → (first : Option Operand) → operand_of sort (before_first is_comma found) ≡ first → (rest : Option (List Token)) → behind_first is_comma found ≡ rest → length found + 1 ≤ 7 * length (sort ∷ sorts)
    by_first more None none rest is_rest = absurd (none_some (rw none at is))
    by_first more (Some first) is_first None is_rest = omega (arith, cut_lengths found, ap left_of is_rest, operand_few sort (before_first is_comma found) first is_first)
    by_first more (Some first) is_first (Some rest) is_rest = by_others (operands_of sorts (Some rest)) refl
      where
        by_others : (others : Option (List Operand)) → operands_of sorts (Some rest) ≡ others → length found + 1 ≤ 7 * length (sort ∷ sorts)
        by_others None none = absurd (none_some (rw (is_first, is_rest, none) at is))
        by_others (Some others) e = omega (arith, more rest others e, cut_lengths found, ap left_of is_rest, operand_few sort (before_first is_comma found) first is_first)

sorts_few : (form : Form) → length (sorts_of form) ≤ 4
sorts_few form = grind arith

-- no operands of an instruction are 28 tokens
no_operands : (sorts : List Sort) (found : List Token) → length sorts ≤ 4 → 28 ≤ length found → operands_of sorts (Some found) ≡ None
no_operands sorts found few long = by_read (operands_of sorts (Some found)) refl
  where
    by_read : (read : Option (List Operand)) → operands_of sorts (Some found) ≡ read → read ≡ None
    by_read None is = refl
    by_read (Some operands) is = absurd (omega (arith, operands_few sorts found operands is, few, long))

value_long : (found : List Token) → 28 ≤ length found → expression_of found ≡ None
value_long found long = by_value (expression_of found) refl
  where
    by_value : (value : Option Expr) → expression_of found ≡ value → value ≡ None
    by_value None is = refl
    by_value (Some value) is = absurd (omega (arith, value_few found value is, long))

space_long : (found : List Token) → 28 ≤ length found → space_of found ≡ None
space_long (a ∷ b ∷ found) long = grind arith
space_long (a ∷ []) long = absurd (omega (arith, long))
space_long [] long = absurd (omega (arith, long))

export_long : (found : List Token) → 28 ≤ length found → export_of found ≡ None
export_long (a ∷ b ∷ found) long = grind arith
export_long (a ∷ []) long = absurd (omega (arith, long))
export_long [] long = absurd (omega (arith, long))

window_few : (found : List Token) (window : Body) → window_of found ≡ Some window → length found ≤ 5
window_few found window is = grind arith

window_long : (found : List Token) → 28 ≤ length found → window_of found ≡ None
window_long found long = by_window (window_of found) refl
  where
    by_window : (window : Option Body) → window_of found ≡ window → window ≡ None
    by_window None is = refl
    by_window (Some window) is = absurd (omega (arith, window_few found window is, long))

-- and none of another statement
directive_long : (word : List ℕ) (found other : List Token) → 28 ≤ length found → 28 ≤ length other → directive_of word found ≡ directive_of word other
directive_long word found other long as_long =
    rw (value_long found long, value_long other as_long, space_long found long, space_long other as_long, export_long found long, export_long other as_long, window_long found long, window_long other as_long) refl

named_long : (word : List ℕ) (found other : List Token) → 28 ≤ length found → 28 ≤ length other → named_body word found ≡ named_body word other
named_long word found other long as_long = by_op (op_named word) refl
  where
    by_op : (op : Option Op) → op_named word ≡ op → named_body word found ≡ named_body word other
    by_op (Some op) is = rw (is, no_operands (sorts_of (form_of op)) found (sorts_few (form_of op)) long, no_operands (sorts_of (form_of op)) other (sorts_few (form_of op)) as_long) refl
    by_op None is = rw is (directive_long word found other long as_long)

body_long : (first : Token) (found other : List Token) → 28 ≤ length found → 28 ≤ length other → body_of (first ∷ found) ≡ body_of (first ∷ other)
body_long first found other long as_long = grind (arith, named_long)

-- what stands behind the third of many tokens doesn't matter
statement_long : (number : ℕ) (a b c : Token) (found other : List Token) → 28 ≤ length found → 28 ≤ length other → statement_of number (a ∷ b ∷ c ∷ found) ≡ statement_of number (a ∷ b ∷ c ∷ other)
statement_long number a b c found other long as_long =
    grind (arith, body_long c found other long as_long, body_long a (b ∷ c ∷ found) (b ∷ c ∷ other) (omega (arith, long)) (omega (arith, as_long)))

-- the tokens that are kept of a line have its statement
pub statement_kept : (number : ℕ) (found : List Token) → statement_of number (take 64 found) ≡ statement_of number found
statement_kept number [] = refl
statement_kept number (a ∷ []) = refl
statement_kept number (a ∷ b ∷ []) = refl
statement_kept number (a ∷ b ∷ c ∷ found) = by_length (nat_le (length found) 61) refl
  where
    by_length : (few : Bool) → nat_le (length found) 61 ≡ few → statement_of number (take 64 (a ∷ b ∷ c ∷ found)) ≡ statement_of number (a ∷ b ∷ c ∷ found)
    by_length true e = let few : length found ≤ 61 = grind (arith, nat_tests, e) in ap (λ rest. statement_of number (a ∷ b ∷ c ∷ rest)) (take_all 61 found few)
    by_length false e =
        let many : 61 < length found = grind (arith, nat_tests, e) in
        statement_long number a b c (take 61 found) found (omega (arith, many, length-take 61 found)) (omega (arith, many))

-- and so has the line
pub line_kept : (number : ℕ) (line : List ℕ) → line_meaning number line ≡ statement_by number (kept_tokens (tokens line))
line_kept number line = by_tokens (tokens line)
  where
    by_tokens : (found : Result (List Token) ℕ) → statement_by number found ≡ statement_by number (kept_tokens found)
    by_tokens (Ok found) = sym (statement_kept number found)
    by_tokens (Err kind) = refl
