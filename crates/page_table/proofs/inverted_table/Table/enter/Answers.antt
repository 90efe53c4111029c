use Rattle.page_table.proofs.Common.{◌≡◌, ℕ, ◌<◌, List, length, sym, ◌∙◌, ap, arith, vec_len, Some, Option, None, slice_set, get_or_read_under, Placed, look_up, key_in, key_to, hash_of, following, IsChained, Key}
use Rattle.page_table.proofs.EnterLemmas.{enter-chained}
use Rattle.page_table.proofs.inverted_table.Table.enter.Goals as goal

pub invariant_of-self : goal.invariant_of-self
invariant_of-self c =
    let anchors : List (Option ℕ) = c.self.inside.anchors.items in
    let next : List (Option ℕ) = c.self.inside.next.items in
    let keys : List (Option Key) = c.self.inside.keys.items in
    let key : Key = key_to c.args.segment c.args.page in
    let own : ℕ = c.hash-hash.result in
    let is_own : own ≡ hash_of (length anchors) key =
    c.hash-hash.ensures.value ∙ ap (λ (n : ℕ). hash_of n key) (c.len.ensures ∙ c.self.inside.anchors.ok.0) in
    let below : own < vec_len c.self.inside.anchors = omega (arith, c.hash-hash.ensures.below, c.len.ensures) in
    let within : own < length anchors = omega (arith, below, c.self.inside.anchors.ok.0) in
    let inside : c.args.frame < length keys = omega (arith, c.requires.frame, ap (λ (table : Placed). length table.keys) c.self.view_is) in
    let free : key_in keys c.args.frame ≡ None = ap (λ (table : Placed). key_in table.keys c.args.frame) c.self.view_is ∙ c.requires.free in
    let absent : look_up keys key ≡ None = ap (λ (table : Placed). look_up table.keys key) c.self.view_is ∙ c.requires.absent in
    let first : following anchors own ≡ c.index.result.now =
    sym (get_or_read_under anchors own (vec_len c.self.inside.anchors) c.index.result.now None c.index.ensures below c.self.inside.anchors.ok.0) in
    let chained : IsChained (slice_set anchors own (Some c.args.frame)) (slice_set next c.args.frame (following anchors own)) (slice_set keys c.args.frame (Some key)) =
    enter-chained anchors next keys c.args.frame own key c.self.invariant inside free absent within is_own in
    rw (c.from-place.ensures, ← first) chained
