use Rattle.store.proofs.Lemmas.{arith, inl, inr, ⊎_elim, ◌∙◌, ◌≡◌, ◌*◌, ◌<◌, ℕ, List, length, Option, None, sym, subst, slice_index_or, cleared_more, item_other}
use Rattle.store.proofs.places.clear_page.Goals as goal

pub overflow_mul-first : goal.overflow_mul-first
overflow_mul-first c = omega (arith, c.requires.page, c.requires.few)

pub overflow_add-first : goal.overflow_add-first
overflow_add-first c = omega (arith, c.requires.page, c.requires.few)

pub loop-line-preserved : goal.loop-line-preserved
loop-line-preserved c =
    let line = c.loop-line.line in
    let within : line < length c.loop-line.items = omega (arith, c.loop-line-test.true, c.min-line-end.ensures, c.len.ensures, c.loop-line.invariant.len) in
    record {
      len = c.write.ensures.len ∙ c.loop-line.invariant.len;
      none = λ k low high.
          subst (λ (these : List (Option ℕ)). slice_index_or these k None ≡ None) (sym c.write.ensures.value) (cleared_more c.loop-line.items (c.args.page * 16) line within c.loop-line.invariant.none k low high);
      others = λ k outside.
          let other : k ≡ line → ⊥ = λ same. ⊎_elim (λ before. omega (arith, before, same, c.loop-line.auto.line)) (λ behind. omega (arith, behind, same)) outside in
          subst (λ (these : List (Option ℕ)). slice_index_or these k None ≡ slice_index_or c.args.items.now k None) (sym c.write.ensures.value)
          (item_other c.loop-line.items line k None None within other ∙ c.loop-line.invariant.others k (⊎_elim (λ before. inl before) (λ behind. inr (omega (arith, behind))) outside));
    }
