use Rattle.seats.proofs.Lemmas.{ArrayVec, map-append, filter_more, Holding, is_in_conflict, number_in, nat_tests, ◌≡◌, ◌+◌, ◌<◌, ℕ, Bool, true, false, cond, List, [], ◌∷◌, ◌++◌, length, map, filter, take, get_or, append-nil, arith, ap, sym, ◌∙◌, few-taken, common_steps}
use Rattle.seats.proofs.seats.Seats.holders.Goals as goal
use Rattle.seats.proofs.seats.Seats.holders.Goals.{then-is_in_conflict, else-is_in_conflict}

pub push-requires : goal.push-requires
push-requires c = grind (arith, nat_tests, few-taken)

-- one more is looked at
one-more : (p : ℕ → Bool) (number : ℕ → ℕ) (seats : List ℕ) (k : ℕ) (here : Bool) → k < length seats → p (get_or seats k 0) ≡ here
    → map number (filter p (take (k + 1) seats)) ≡ map number (filter p (take k seats)) ++ map number (cond here (get_or seats k 0 ∷ []) [])
one-more p number seats k here within is = grind (arith, common_steps, filter_more, map-append)

pub loop-other-preserved : goal.loop-other-preserved
loop-other-preserved c =
    let p : ℕ → Bool = is_in_conflict c.args.self.now.holding c.args.seat c.args.request.now.wants.items in
    let seats : List ℕ = c.taken-other-items.result.now in
    let now = c.loop-other.invariant in
    let here : ℕ = get_or seats c.loop-other.other-index 0 in
    let tells : c.is_in_conflict.result ≡ p here =
    c.is_in_conflict.ensures ∙ ap (λ (holding : Holding). is_in_conflict holding c.args.seat c.args.request.now.wants.items here) c.locks.ensures in
    elim c.if-is_in_conflict.branch [
      | then-is_in_conflict w ↦
          let more = one-more p (number_in c.args.self.now) seats c.loop-other.other-index true c.loop-other-test.true (sym tells ∙ w.if-is_in_conflict.true) in
          record {
            long = omega (arith, now.long, w.push.ensures.len, ap (λ (these : ArrayVec ℕ). length these.items) w.holders-is);
            numbers = ap (λ (these : ArrayVec ℕ). these.items) w.holders-is ∙ w.push.ensures.items ∙ (λ i. now.numbers i ++ (w.sitter.ensures i).number ∷ []) ∙ sym more;
          }
      | else-is_in_conflict w ↦
          let more = one-more p (number_in c.args.self.now) seats c.loop-other.other-index false c.loop-other-test.true (sym tells ∙ w.if-is_in_conflict.false) in
          record {
            long = omega (arith, now.long, ap (λ (these : ArrayVec ℕ). length these.items) w.holders-is);
            numbers = ap (λ (these : ArrayVec ℕ). these.items) w.holders-is ∙ now.numbers ∙ sym (more ∙ append-nil _);
          }
    ]
