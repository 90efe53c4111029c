use Rattle.page_table.proofs.Common.{◌≡◌, ℕ, ◌<◌, List, length, ◌∙◌, ap, arith, vec_len, Option, None, find, slice_index_or, get_or_read_under, Placed, look_up, holds, key_in, key_of, chain_from, hash_of, Key}
use Rattle.page_table.proofs.FindLemmas.{chain-look_up}
use Rattle.page_table.proofs.inverted_table.Table.find.Goals as goal

pub returns : goal.returns
returns c =
    let anchors : List (Option ℕ) = c.self.inside.anchors.items in
    let next : List (Option ℕ) = c.self.inside.next.items in
    let keys : List (Option Key) = c.self.inside.keys.items in
    let wanted : Key = key_of c.args.at in
    let inside : c.hash.result < vec_len c.self.inside.anchors = omega (arith, c.hash.ensures.below, c.len.ensures) in
    let hashed : c.hash.result ≡ hash_of (length anchors) wanted =
    c.hash.ensures.value ∙ ap (λ (n : ℕ). hash_of n wanted) (c.len.ensures ∙ c.self.inside.anchors.ok.0) in
    let first : c.index-first.result.now ≡ slice_index_or anchors (hash_of (length anchors) wanted) None =
    get_or_read_under anchors c.hash.result (vec_len c.self.inside.anchors) c.index-first.result.now None c.index-first.ensures inside c.self.inside.anchors.ok.0
    ∙ ap (λ (h : ℕ). slice_index_or anchors h None) hashed in
    let below : hash_of (length anchors) wanted < length anchors = omega (arith, hashed, inside, c.self.inside.anchors.ok.0) in
    c.find_along.ensures
    ∙ ap (λ (list : List (Option ℕ)). find (λ (frame : ℕ). holds wanted (key_in c.deref-2.result.now frame)) (chain_from list (length list) c.index-first.result.now)) c.deref.ensures.value
    ∙ ap (λ (list : List (Option Key)). find (λ (frame : ℕ). holds wanted (key_in list frame)) (chain_from next (length next) c.index-first.result.now)) c.deref-2.ensures.value
    ∙ ap (λ (o : Option ℕ). find (λ (frame : ℕ). holds wanted (key_in keys frame)) (chain_from next (length next) o)) first
    ∙ chain-look_up anchors next keys wanted c.self.invariant below
    ∙ ap (λ (table : Placed). look_up table.keys wanted) c.self.view_is
