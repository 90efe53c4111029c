use Rattle.frame_pool.proofs.Lemmas.{◌≡◌, ℕ, [], ◌∷◌, ◌++◌, sym, ◌∙◌, ap, arith, frame_of_page, pool_places, nat_tests, common_steps, slice_set, None, unwrap_or, sound-left_by, Leaves, leaves, read_frame, pushed, Arrived}
use Rattle.frame_pool.proofs.frame_places.FramePlaces.leave.Goals as goal

pub index-requires : goal.index-requires
index-requires c = grind (arith, nat_tests, leaves)

pub index_mut-requires : goal.index_mut-requires
index_mut-requires c = grind (arith, nat_tests, leaves)

pub index_mut-requires-2 : goal.index_mut-requires-2
index_mut-requires-2 c = grind (arith, nat_tests, leaves, read_frame)

pub invariant_of-self-clause-sound : goal.invariant_of-self-clause-sound
invariant_of-self-clause-sound c =
    let facts : Leaves c.args.self.now c.args.page = leaves c.args.self.now c.args.page c.requires in
    let frame : c.from.result ≡ unwrap_or (frame_of_page (pool_places c.args.self.now) c.args.page) 0 = c.from.ensures ∙ read_frame c.args.self.now c.from-place.result c.args.page c.unwrap_or-frame.result c.index.result.now c.from-place.ensures facts.inside c.index.ensures c.unwrap_or-frame.ensures in
    let free : c.push.new.self.items ≡ c.args.self.now.free.items ++ unwrap_or (frame_of_page (pool_places c.args.self.now) c.args.page) 0 ∷ [] =
    pushed _ _ c.push.result c.push.new.self.items c.args.self.now.free.items c.unwrap_or-frame.result c.push.ensures.items (c.push.ensures.succeeds facts.free)
    ∙ ap (λ (x : ℕ). c.args.self.now.free.items ++ x ∷ []) (sym c.from.ensures ∙ frame) in
    sound-left_by (pool_places c.args.self.now) c.args.page (unwrap_or (frame_of_page (pool_places c.args.self.now) c.args.page) 0)
    c.leave.new.self.order c.push.new.self.items
    (slice_set c.args.self.now.frame_of.items c.from-place.result None) (slice_set c.args.self.now.page_in.items c.from.result None)
    c.args.self.now.sound facts.in_frame (ap (λ (arrived : Arrived). arrived.order) c.leave.ensures)
    (ap (λ (i : ℕ). slice_set c.args.self.now.frame_of.items i None) c.from-place.ensures) (ap (λ (i : ℕ). slice_set c.args.self.now.page_in.items i None) frame) free

pub returns : goal.returns
returns c = grind (arith, common_steps)
