use Rattle.page_table.proofs.Common.{◌≡◌, ℕ, ◌-◌, ◌<◌, List, length, sym, ◌∙◌, ap, arith, subst, slice_index_or, slice_set, get_or_read_under, vec_len, length-set, slice_index, owned_by, Authority}
use Rattle.page_table.proofs.EntryLemmas.{count-few, count-some, count-within, counts-set_by}
use Rattle.page_table.proofs.page_entries.PageEntries.set.Goals as goal

pub overflow_sub-index_mut : goal.overflow_sub-index_mut
overflow_sub-index_mut c =
    let p = c.self.inside in
    let inside : c.args.page < length p.items.items = subst (λ (list : List Authority). c.args.page < length list) (sym c.self.view_is) c.requires in
    let old : c.index.result.now ≡ slice_index_or p.items.items c.args.page c.index.result.now =
    c.index.ensures ∙ ap (λ (i : ℕ). slice_index_or p.items.items i c.index.result.now) c.from-place.ensures in
    let before : c.index_mut.result.now ≡ slice_index p.owned.items c.place_of-before.result =
    get_or_read_under p.owned.items c.place_of-before.result (vec_len p.owned) c.index_mut.result.now 0 c.index_mut.ensures.value (omega (arith, c.place_of-before.ensures.small, c.self.invariant.sized)) p.owned.ok.0 in
    let own = ap (owned_by p.items.items) c.place_of-before.ensures.value in
    omega (arith, before, own, c.self.invariant.counted c.place_of-before.result c.place_of-before.ensures.small, count-some p.items.items c.args.page c.index.result.now inside old)

pub overflow_add-index_mut : goal.overflow_add-index_mut
overflow_add-index_mut c =
    let p = c.self.inside in
    let long : length p.owned.items ≡ 256 = sym p.owned.ok.0 ∙ c.self.invariant.sized in
    let before : c.index_mut.result.now ≡ slice_index p.owned.items c.place_of-before.result =
    get_or_read_under p.owned.items c.place_of-before.result (vec_len p.owned) c.index_mut.result.now 0 c.index_mut.ensures.value (omega (arith, c.place_of-before.ensures.small, c.self.invariant.sized)) p.owned.ok.0 in
    let after : c.index_mut-2.result.now ≡ slice_index (slice_set p.owned.items c.place_of-before.result (c.index_mut.result.now - 1)) c.place_of-after.result =
    get_or_read_under (slice_set p.owned.items c.place_of-before.result (c.index_mut.result.now - 1)) c.place_of-after.result (vec_len p.owned) c.index_mut-2.result.now 0 c.index_mut-2.ensures.value (omega (arith, c.place_of-after.ensures.small, c.self.invariant.sized)) (p.owned.ok.0 ∙ sym (length-set p.owned.items c.place_of-before.result (c.index_mut.result.now - 1))) in
    let some = c.self.invariant.counted c.place_of-before.result c.place_of-before.ensures.small in
    let few = count-within p.owned.items p.items.items c.place_of-before.result c.place_of-after.result (c.index_mut.result.now - 1) long c.self.invariant.counted c.place_of-before.ensures.small c.place_of-after.ensures.small
    (omega (arith, before, some, count-few p.items.items c.place_of-before.result)) in
    omega (arith, after, few, p.items.ok, p.items.small)

pub invariant_of-self : goal.invariant_of-self
invariant_of-self c =
    let p = c.self.inside in
    let inside : c.args.page < length p.items.items = subst (λ (list : List Authority). c.args.page < length list) (sym c.self.view_is) c.requires in
    let long : length p.owned.items ≡ 256 = sym p.owned.ok.0 ∙ c.self.invariant.sized in
    let old : c.index.result.now ≡ slice_index_or p.items.items c.args.page c.index.result.now =
    c.index.ensures ∙ ap (λ (i : ℕ). slice_index_or p.items.items i c.index.result.now) c.from-place.ensures in
    record {
      sized = c.self.invariant.sized;
      counted = λ tid below.
          counts-set_by p.owned.items p.items.items c.args.page c.args.value c.index.result.now c.place_of-before.result c.place_of-after.result c.from-place.result
          c.index_mut.result.now c.index_mut-2.result.now tid long c.self.invariant.counted inside old below
          c.place_of-before.ensures.value c.place_of-before.ensures.small c.place_of-after.ensures.value c.place_of-after.ensures.small c.from-place.ensures
          (get_or_read_under p.owned.items c.place_of-before.result (vec_len p.owned) c.index_mut.result.now 0 c.index_mut.ensures.value (omega (arith, c.place_of-before.ensures.small, c.self.invariant.sized)) p.owned.ok.0)
          (get_or_read_under (slice_set p.owned.items c.place_of-before.result (c.index_mut.result.now - 1)) c.place_of-after.result (vec_len p.owned) c.index_mut-2.result.now 0 c.index_mut-2.ensures.value (omega (arith, c.place_of-after.ensures.small, c.self.invariant.sized)) (p.owned.ok.0 ∙ sym (length-set p.owned.items c.place_of-before.result (c.index_mut.result.now - 1))));
    }
