-- What `retain_mut` leaves, where the closure's captures keep what they are.
use Rattle.outside.proofs.Common.{◌≡◌, Bool, List, [], ◌∷◌, ◌∙◌, ap, cond}
use Rattle.std.specs.List.{retain_mut}
use Rattle.std.specs.List.Retain.{RetainsInTurn}

pub retained : {S X : Type 0} (R : S → X → Bool → S → X → Type 0) (Holds : S → Type 0) (test : X → Bool) (change : X → X) → ((s : S) (x : X) (b : Bool) (t : S) (y : X) → Holds s → R s x b t y → Holds t × (b ≡ test x) × (y ≡ change x))
    → (s : S) (xs ys : List X) → Holds s → RetainsInTurn R s xs ys → ys ≡ retain_mut test change xs
retained R Holds test change says s [] ys holds turn = turn
retained R Holds test change says s (x ∷ xs) ys holds turn =
    let here = says s x turn.0 turn.1 turn.2 holds turn.3 in
    let rest = retained R Holds test change says turn.1 xs turn.4 here.0 turn.5 in
    let decided : ys ≡ cond (test x) (turn.2 ∷ turn.4) turn.4 = turn.6 ∙ ap (λ b. cond b (turn.2 ∷ turn.4) turn.4) here.1 in
    let changed = ap (λ first. cond (test x) (first ∷ turn.4) turn.4) here.2 in
    decided ∙ changed ∙ ap (λ kept. cond (test x) (change x ∷ kept) kept) rest
