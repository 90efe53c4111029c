use Rattle.page_table.proofs.Common.{◌≡◌, ℕ, ◌<◌, List, length, sym, ◌∙◌, ap, arith, vec_len, Some, Option, None, slice_set, get_or_read_under, Placed, key_in, hash_of, following, chain_of, before_in, IsChained, Key, common_steps, nat_tests}
use Rattle.page_table.proofs.EnterLemmas.{found-before, before-below, leave-first, leave-behind}
use Rattle.page_table.proofs.inverted_table.Table.leave.Goals as goal
use Rattle.page_table.proofs.inverted_table.Table.leave.Goals.{in-Some-before, in-None}

pub index_mut-requires : goal.index_mut-requires
index_mut-requires c = grind (arith, nat_tests, get_or_read_under, found-before, before-below)

pub invariant_of-self : goal.invariant_of-self
invariant_of-self c =
    let anchors : List (Option ℕ) = c.self.inside.anchors.items in
    let next : List (Option ℕ) = c.self.inside.next.items in
    let keys : List (Option Key) = c.self.inside.keys.items in
    let frame : ℕ = c.args.frame in
    let key : Key = c.in-Some.key in
    let own : ℕ = c.hash-hash.result in
    let is_own : own ≡ hash_of (length anchors) key =
    c.hash-hash.ensures.value ∙ ap (λ (n : ℕ). hash_of n key) (c.len.ensures ∙ c.self.inside.anchors.ok.0) in
    let below : own < vec_len c.self.inside.anchors = omega (arith, c.hash-hash.ensures.below, c.len.ensures) in
    let within : own < length anchors = omega (arith, below, c.self.inside.anchors.ok.0) in
    let inside : frame < length keys = omega (arith, c.requires, ap (λ (table : Placed). length table.keys) c.self.view_is) in
    let there : c.from-place.result < vec_len c.self.inside.keys = omega (arith, inside, c.from-place.ensures, c.self.inside.keys.ok.0) in
    let behind : c.from-place.result < vec_len c.self.inside.next = omega (arith, inside, c.from-place.ensures, c.self.inside.next.ok.0, c.self.invariant.sized) in
    let holds : key_in keys frame ≡ Some key =
    sym (get_or_read_under keys c.from-place.result (vec_len c.self.inside.keys) c.index.result.now None c.index.ensures there c.self.inside.keys.ok.0
    ∙ ap (key_in keys) c.from-place.ensures)
    ∙ c.in-Some.is in
    let after : c.index-after.result.now ≡ following next frame =
    get_or_read_under next c.from-place.result (vec_len c.self.inside.next) c.index-after.result.now None c.index-after.ensures behind c.self.inside.next.ok.0
    ∙ ap (following next) c.from-place.ensures in
    let first = get_or_read_under anchors own (vec_len c.self.inside.anchors) c.index-2.result.now None c.index-2.ensures below c.self.inside.anchors.ok.0 in
    let found = found-before anchors next c.deref.result.now own frame c.index-2.result.now c.before-2.result c.before-2.ensures c.deref.ensures.value first in
    elim c.match-before.branch [
      | in-Some-before w ↦
          let before : before_in (chain_of anchors next own) frame ≡ Some w.in-Some-before.other = sym found ∙ w.in-Some-before.is in
          let chained : IsChained anchors (slice_set next w.in-Some-before.other (following next frame)) (slice_set keys frame None) =
          leave-behind anchors next keys frame own w.in-Some-before.other key c.self.invariant inside holds within is_own before in
          rw (w.self-inside-is, c.from-place.ensures, w.from.ensures, after) chained
      | in-None w ↦
          let before : before_in (chain_of anchors next own) frame ≡ None = sym found ∙ w.in-None.is in
          let chained : IsChained (slice_set anchors own (following next frame)) next (slice_set keys frame None) =
          leave-first anchors next keys frame own key c.self.invariant inside holds within is_own before in
          rw (w.self-inside-is, c.from-place.ensures, after) chained
    ]

pub returns-in_default : goal.returns-in_default
returns-in_default c = grind (arith, common_steps)
