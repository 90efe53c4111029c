-- The calls of runs, and of one call more.
use Rattle.outside.proofs.Common.{◌≡◌, ℕ, zero, suc, ◌+◌, List, [], ◌∷◌, ◌++◌, length, refl, sym, ◌∙◌, ap, append_assoc, append-nil, arith, ◌≤◌, length-append, replicate-append-replicate, length-replicate, replicate, count_by, if◌then◌else◌, cond, Result, Ok, Err, is_ok, IsOk, Run, DiskCall, Asked, calls_of, is_write, nat_tests}
use Rattle.std.proofs.lemmas.List.Sums.{sum_by-cons}

-- one more that asked alone
pub calls_of-asked : (runs : List Run) (asked : ℕ) → calls_of runs (asked + 1) ≡ calls_of runs asked ++ Asked ∷ []
calls_of-asked [] asked = sym (replicate-append-replicate asked 1 Asked)
calls_of-asked (run ∷ runs) asked =
    ap (λ (rest : List DiskCall). replicate run.asked Asked ++ run.call ∷ rest) (calls_of-asked runs asked) ∙ sym (append_assoc (replicate run.asked Asked) (run.call ∷ calls_of runs asked) (Asked ∷ []))

-- one more that did more
pub calls_of-run : (runs : List Run) (last : Run) → calls_of (runs ++ last ∷ []) 0 ≡ calls_of runs last.asked ++ last.call ∷ []
calls_of-run [] last = refl
calls_of-run (run ∷ runs) last = grind (arith, nat_tests, calls_of-run runs last, append_assoc)

-- as many asked alone at the end as there are calls, or fewer
pub asked-le : (runs : List Run) (asked : ℕ) → asked ≤ length (calls_of runs asked)
asked-le [] asked = omega (arith, length-replicate asked Asked)
asked-le (run ∷ runs) asked = omega (arith, length-append (replicate run.asked Asked) (run.call ∷ calls_of runs asked), asked-le runs asked)

none_wrote : (asked : ℕ) (calls : List DiskCall) → count_by is_write (replicate asked Asked ++ calls) ≡ count_by is_write calls
none_wrote zero calls = refl
none_wrote (suc asked) calls = none_wrote asked calls

-- the writes among them are those of the runs
pub writes-of : (runs : List Run) (asked : ℕ) → count_by is_write (calls_of runs asked) ≡ count_by (λ run. is_write run.call) runs
writes-of [] asked = ap (count_by is_write) (sym (append-nil (replicate asked Asked))) ∙ none_wrote asked []
writes-of (run ∷ runs) asked =
    none_wrote run.asked (run.call ∷ calls_of runs asked)
    ∙ sum_by-cons (λ call. cond (is_write call) 1 0) run.call (calls_of runs asked)
    ∙ ap (λ (n : ℕ). cond (is_write run.call) 1 0 + n) (writes-of runs asked)
    ∙ sym (sum_by-cons (λ run. cond (is_write run.call) 1 0) run runs)

-- a push for which there was room
pub pushed : {X Y : Type 0} (result : Result X Y) (runs new : List Run) (last : Run) → new ≡ (if is_ok result then runs ++ last ∷ [] else runs) → IsOk result → calls_of new 0 ≡ calls_of runs last.asked ++ last.call ∷ []
pushed (Ok done) runs new last is ok = ap (λ (these : List Run). calls_of these 0) is ∙ calls_of-run runs last
pushed (Err failed) runs new last is ok = absurd (cc)
