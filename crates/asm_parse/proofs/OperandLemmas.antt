-- The operands of an instruction, as they are read one after the other.
use Rattle.asm_parse.proofs.Common.{◌≡◌, ℕ, ◌+◌, ◌<◌, Bool, not, cond, length-map, List, [], ◌∷◌, ◌++◌, length, map, drop, Option, Some, None, refl, ap, position, Bor, drop-cons, prefix_len, option_map, Token, operands_of, Sort, Operand}

-- a prefix of a list that was mapped
prefix_mapped : {A B : Type 0} (p : B → Bool) (f : A → B) (xs : List A) → prefix_len p (map f xs) ≡ prefix_len (λ x. p (f x)) xs
prefix_mapped p f [] = refl
prefix_mapped p f (x ∷ xs) = ap (λ n. cond (p (f x)) (1 + n) 0) (prefix_mapped p f xs)

-- the first place at which a test of what was mapped passes
pub position_mapped : {A B : Type 0} (p : B → Bool) (f : A → B) (xs : List A) → position p (map f xs) ≡ position (λ x. p (f x)) xs
position_mapped p f xs = rw (prefix_mapped (λ x. not (p x)) f xs, length-map xs f) refl

-- operands behind those that were read
abbrev pub operands_behind : List Operand → Option (List Operand) → Option (List Operand)
operands_behind read (Some others) = Some (read ++ others)
operands_behind read None = None

-- no operands are read where one is still to come and no tokens are left
pub stopped : (read : List Operand) (sorts : List Sort) (i : ℕ) (left : Option (Bor (List Token))) (whole : Option (List Operand)) → i < length sorts → left ≡ None → operands_behind read (operands_of (drop i sorts) (option_map (λ part. part.now) left)) ≡ whole → None ≡ whole
stopped read sorts i left whole inside none so_far = rw (none, drop-cons sorts i Sort.Value) at so_far
