-- The members of a shown cycle wait for each other.
use Rattle.desk_law.proofs.Common.{ℕ, zero, suc, ◌&&◌, Bool, List, ◌∷◌, length, leads, shown_after, found-passes, EachWaits, BrokenCyclesWere, nat_tests, arith}

after-waits : (waits : ℕ → ℕ → Bool) (all : List ℕ) (steps first last : ℕ) → EachWaits waits (last ∷ shown_after waits all steps first last)
after-waits waits all zero first last = tt
after-waits waits all (suc steps) first last =
    grind (arith, nat_tests, found-passes (λ next. waits last next && leads waits all (length all) next first) all, after-waits waits all steps first)

pub broken-cycles-were : BrokenCyclesWere
broken-cycles-were number desk counts = grind (arith, nat_tests, after-waits)
