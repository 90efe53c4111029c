use Rattle.drills.proofs.Common.{List, [], ◌∷◌, ◌++◌, ℕ, ap, ◌∙◌, subst, IsStopFound}
use Rattle.drills.proofs.drill.pair_at.Goals as goal

pub returns : goal.returns
returns c = record {
  old = subst (λ (outcome : List ℕ). IsStopFound c.args.job.now c.args.write outcome c.in-Some.old) c.new.ensures.items (rw c.in-Some.is at c.in_ok-old.ensures);
  torn = subst (λ (outcome : List ℕ). IsStopFound c.args.job.now c.args.write outcome c.in-Some-2.torn) (c.in_ok-push.ensures.items ∙ ap (λ (bytes : List ℕ). bytes ++ 165 ∷ []) c.new-outcome.ensures.items) (rw c.in-Some-2.is at c.in_ok-torn.ensures);
}
