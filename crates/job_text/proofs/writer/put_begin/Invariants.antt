use Rattle.job_text.proofs.Common.{◌≡◌, ℕ, ◌∷◌, ◌++◌, take, decimal, flat_map}
use Rattle.job_text.proofs.writer.put_begin.Given as goal

abbrev pub invariant-loop-arg : goal.invariant-loop-arg
invariant-loop-arg l = l.text.items ≡ l.initial.text.items ++ flat_map (λ (arg : ℕ). 32 ∷ decimal arg) (take l.arg-index l.args)
