-- Statements that are kept whole, and one more.
use Rattle.asm_parse.proofs.Common.{◌≡◌, ℕ, ◌+◌, ◌<◌, ◌≤◌, List, [], ◌∷◌, ◌++◌, length, map, Option, None, Result, Ok, Err, ap, ◌∙◌, arith, length-append, AllByRecursion, get_or-append_seam, get_or_append_left, Statement, Nothing, Gains, on_line, nat_tests, Body}
use Rattle.asm_parse.specs.declared.head.Head.{Head}
use Rattle.asm_parse.specs.declared.head.Head.TheVariants.{Bare, Whole}
use Rattle.asm_parse.specs.Kept.{AreHeadsKept, IsHeadKept, stated_by}

abbrev none : Statement
none = record { line = 0; label = None; body = Nothing }

kept_more : (wholes : List Statement) (heads : List Head) (statement : Statement) (place : ℕ) → AllByRecursion (IsHeadKept (length wholes)) heads → place ≡ length wholes → map (stated_by (wholes ++ statement ∷ [])) (heads ++ Whole place ∷ []) ≡ map (stated_by wholes) heads ++ statement ∷ []
kept_more wholes [] statement place each is = grind (arith, nat_tests, get_or-append_seam)
kept_more wholes (Bare line label ∷ heads) statement place each is =
    ap (λ (rest : List Statement). stated_by wholes (Bare line label) ∷ rest) (kept_more wholes heads statement place each.1 is)
kept_more wholes (Whole at ∷ heads) statement place each is = cc (get_or_append_left wholes (statement ∷ []) none at each.0, kept_more wholes heads statement place each.1 is)

each_kept : (count more place : ℕ) (heads : List Head) → count ≤ more → place < more → AllByRecursion (IsHeadKept count) heads → AllByRecursion (IsHeadKept more) (heads ++ Whole place ∷ [])
each_kept count more place [] below inside each = (inside, tt)
each_kept count more place (Bare line label ∷ heads) below inside each = (tt, each_kept count more place heads below inside each.1)
each_kept count more place (Whole at ∷ heads) below inside each = (omega (arith, each.0), each_kept count more place heads below inside each.1)

-- one whole statement more is kept
pub are_kept : (alone : Body) (wholes new : List Statement) (heads : List Head) (place line : ℕ) (label : Option (List ℕ)) (body : Result Body ℕ) → AreHeadsKept alone wholes heads → place ≡ length wholes → Gains wholes new (on_line line label body) → AreHeadsKept alone new (heads ++ Whole place ∷ [])
are_kept alone wholes new heads place line label (Err kind) kept is gains = absurd gains
are_kept alone wholes new heads place line label (Ok body) kept is gains =
    let longer : length new ≡ length wholes + 1 = ap length gains ∙ length-append wholes (record { line = line; label = label; body = body } ∷ []) in
    record {
      nothing_said = kept.nothing_said;
      each = each_kept (length wholes) (length new) place heads (omega (arith, longer)) (omega (arith, longer, is)) kept.each;
      few = omega (arith, longer, kept.few, length-append heads (Whole place ∷ []));
    }

-- and it is seen behind the others
pub is_gained : (wholes new : List Statement) (heads : List Head) (place line : ℕ) (label : Option (List ℕ)) (body : Result Body ℕ) → AllByRecursion (IsHeadKept (length wholes)) heads → place ≡ length wholes → Gains wholes new (on_line line label body) → Gains (map (stated_by wholes) heads) (map (stated_by new) (heads ++ Whole place ∷ [])) (on_line line label body)
is_gained wholes new heads place line label (Err kind) each is gains = absurd gains
is_gained wholes new heads place line label (Ok body) each is gains = rw gains (kept_more wholes heads _ place each is)
