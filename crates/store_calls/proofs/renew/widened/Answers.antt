use Rattle.store_calls.proofs.Lemmas.{◌≡◌, ◌+◌, ◌<◌, ◌/◌, ◌++◌, ℕ, List, [], ◌∷◌, length, take, slice_index_or, sym, ◌∙◌, ap, subst, arith, Result, Err, IsOk, OnOk, length-map, length-take, take_all, AreSegmentsLegal, Four, widened_segments, widened_legal, widened_more, nat_tests}
use Rattle.store_calls.proofs.renew.widened.Goals as goal

pub loop-segment-init : goal.loop-segment-init
loop-segment-init c = c.new-segments.ensures

-- there is room for one more
pushed : {T E P R : Type 0} (result : Result T E) → (R → IsOk result) → R → OnOk result P → P
pushed result fits room added = grind (arith, nat_tests)

not_ok : {T E : Type 0} (result : Result T E) {fault : E} → result ≡ Err fault → IsOk result → ⊥
not_ok result is ok = grind (arith, nat_tests)

pub loop-segment-preserved : goal.loop-segment-preserved
loop-segment-preserved c =
    let segments = c.segments-segment-items.result.now in let i = c.loop-segment.segment-index in
    let segment = slice_index_or segments i (0, 0) in
    let room : length c.loop-segment.segments.items < 15 =
    omega (arith, c.loop-segment-test.true, c.segments-segment-items.ensures.legal.few, ap length c.segments-segment-items.ensures.value, ap length c.loop-segment.invariant, length-map {B = ℕ × ℕ} (take i segments) (λ (those : ℕ × ℕ). (those.0, (those.1 + 1) / 2)), length-take i segments) in
    let half : c.div_ceil.result ≡ (segment.1 + 1) / 2 = c.div_ceil.ensures ∙ omega arith in
    pushed c.try_push.result c.try_push.ensures.variant.1 room c.try_push.ensures.ok
    ∙ ap (λ (n : ℕ). c.loop-segment.segments.items ++ (segment.0, n) ∷ []) half
    ∙ ap (λ (those : List (ℕ × ℕ)). those ++ (segment.0, (segment.1 + 1) / 2) ∷ []) c.loop-segment.invariant
    ∙ sym (widened_more segments i (0, 0) c.loop-segment-test.true)

-- all segments were added
module _ (c : goal.In-Ok) where
  added : c.as_slice.result.now ≡ widened_segments c.args.old.now.segments
  added =
      c.as_slice.ensures.value ∙ c.loop-segment.invariant ∙ ap widened_segments (take_all c.loop-segment.segment-index c.segments-segment-items.result.now c.loop-segment-test.false ∙ c.segments-segment-items.ensures.value)

pub returns-in-Ok : goal.returns-in-Ok
returns-in-Ok c = c.in-Ok.ensures.value ∙ ap (λ (segments : List (ℕ × ℕ)). record { page = Four; segments = segments; fine = 0 }) (added c)

pub returns-in-Err : goal.returns-in-Err
returns-in-Err c =
    let all : c.as_slice.result.now ≡ widened_segments c.args.old.now.segments =
    c.as_slice.ensures.value ∙ c.loop-segment.invariant ∙ ap widened_segments (take_all c.loop-segment.segment-index c.segments-segment-items.result.now c.loop-segment-test.false ∙ c.segments-segment-items.ensures.value) in
    let legal = c.new.ensures.legal.1 (subst AreSegmentsLegal (sym all) (widened_legal c.args.old.now.segments c.segments-segment-items.ensures.legal)) in
    absurd (not_ok c.new.result c.in-Err.is legal)
