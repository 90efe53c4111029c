use Rattle.page_table.proofs.Common.{◌≡◌, List, length, map, sym, ◌∙◌, ap, arith, slice_set, get_or_read_under, vec_len, length-set, length-map, cleared_entry, with_items_is, slice_index, owned_by, Authority}
use Rattle.page_table.proofs.EntryLemmas.{clear-none, count-few, count-within, counts-clear_by}
use Rattle.page_table.proofs.page_entries.PageEntries.clear.Goals.{After-index-count, After-index_mut-2}
use Rattle.page_table.proofs.page_entries.PageEntries.clear.Goals as goal

count_is : (c : After-index-count) → c.index-count.result.now ≡ slice_index c.self.inside.owned.items c.place_of-place.result
count_is c =
    let p = c.self.inside in
    get_or_read_under p.owned.items c.place_of-place.result (vec_len p.owned) c.index-count.result.now 0 c.index-count.ensures (omega (arith, c.place_of-place.ensures.small, c.self.invariant.sized)) p.owned.ok.0

first_is : (c : After-index_mut-2) → c.index_mut-2.result.now ≡ slice_index (slice_set c.self.inside.owned.items c.place_of-place.result 0) 0
first_is c =
    let p = c.self.inside in
    get_or_read_under (slice_set p.owned.items c.place_of-place.result 0) 0 (vec_len p.owned) c.index_mut-2.result.now 0 c.index_mut-2.ensures.value (omega (arith, c.self.invariant.sized)) (p.owned.ok.0 ∙ sym (length-set p.owned.items c.place_of-place.result 0))

pub returns-then-count-eq0 : goal.returns-then-count-eq0
returns-then-count-eq0 c =
    let p = c.self.inside in
    let count = count_is (goal.at.returns-then-count-eq0 c).After-index-count in
    let own = ap (owned_by p.items.items) c.place_of-place.ensures.value in
    let none : owned_by p.items.items c.args.tid ≡ 0 = omega (arith, own, count, c.if-count-eq0.true, c.self.invariant.counted c.place_of-place.result c.place_of-place.ensures.small) in
    rw (← c.self.view_is) (sym (clear-none c.args.tid p.items.items none))

pub overflow_add-index_mut : goal.overflow_add-index_mut
overflow_add-index_mut c =
    let p = c.self.inside in
    let long : length p.owned.items ≡ 256 = sym p.owned.ok.0 ∙ c.self.invariant.sized in
    let first = first_is (goal.at.overflow_add-index_mut c).After-index_mut-2 in
    let count = count_is (goal.at.overflow_add-index_mut c).After-index-count in
    let own = c.self.invariant.counted c.place_of-place.result c.place_of-place.ensures.small in
    let most = count-few p.items.items c.place_of-place.result in
    let few = count-within p.owned.items p.items.items c.place_of-place.result 0 0 long c.self.invariant.counted c.place_of-place.ensures.small (omega arith) (omega arith) in
    omega (arith, first, count, own, most, few, p.items.ok, p.items.small)

pub invariant_of-self : goal.invariant_of-self
invariant_of-self c =
    let p = c.self.inside in
    let long : length p.owned.items ≡ 256 = sym p.owned.ok.0 ∙ c.self.invariant.sized in
    let after = c.clear_all.ensures ∙ ap (map (cleared_entry c.args.tid)) c.as_mut_slice.ensures.value in
    record {
      sized = c.self.invariant.sized;
      counted = λ other below.
          counts-clear_by p.owned.items p.items.items c.args.tid c.place_of-place.result c.index-count.result.now c.index_mut-2.result.now other long c.self.invariant.counted
          c.place_of-place.ensures.value c.place_of-place.ensures.small (count_is (goal.at.invariant_of-self c).After-index-count) below (first_is (goal.at.invariant_of-self c).After-index_mut-2)
          ∙ ap (λ (list : List Authority). owned_by list other) (sym (with_items_is p.items c.clear_all.new.entries (ap length after ∙ length-map p.items.items (cleared_entry c.args.tid) ∙ sym p.items.ok.0) ∙ after));
    }
