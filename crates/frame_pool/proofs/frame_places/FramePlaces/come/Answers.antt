use Rattle.frame_pool.proofs.Lemmas.{◌≡◌, ℕ, ◌<◌, [], ◌∷◌, ◌++◌, length, ◌∙◌, ap, arith, Some, slice_set, unwrap_or, pool_places, sound-came_by, popped, some-free, free-within, Arrived}
use Rattle.frame_pool.proofs.frame_places.FramePlaces.come.Goals as goal

pub index_mut-requires-2 : goal.index_mut-requires-2
index_mut-requires-2 c =
    let split : c.args.self.now.free.items ≡ c.pop.new.self.items ++ unwrap_or c.pop.result 0 ∷ [] =
    popped c.args.self.now.free.items c.pop.new.self.items c.pop.result c.pop.ensures.items (c.pop.ensures.variant.1 (some-free c.args.self.now c.requires.room)) in
    let frame : c.from-2.result ≡ unwrap_or c.pop.result 0 = c.from-2.ensures ∙ c.unwrap_or-frame.ensures in
    omega (arith, frame, free-within c.args.self.now (unwrap_or c.pop.result 0) c.pop.new.self.items split)

pub invariant_of-self-clause-sound : goal.invariant_of-self-clause-sound
invariant_of-self-clause-sound c =
    let split : c.args.self.now.free.items ≡ c.pop.new.self.items ++ unwrap_or c.pop.result 0 ∷ [] =
    popped c.args.self.now.free.items c.pop.new.self.items c.pop.result c.pop.ensures.items (c.pop.ensures.variant.1 (some-free c.args.self.now c.requires.room)) in
    let frame : c.from-2.result ≡ unwrap_or c.pop.result 0 = c.from-2.ensures ∙ c.unwrap_or-frame.ensures in
    let resident : c.come.new.self.order ≡ c.args.self.now.resident.order ++ c.args.page ∷ [] = ap (λ (arrived : Arrived). arrived.order) c.come.ensures in
    let inside : c.args.page < length c.args.self.now.frame_of.items = omega (arith, c.requires.page, c.args.self.now.frame_of.ok.0) in
    sound-came_by (pool_places c.args.self.now) c.args.page (unwrap_or c.pop.result 0) c.come.new.self.order c.pop.new.self.items
    (slice_set c.args.self.now.frame_of.items c.from.result (Some c.unwrap_or-frame.result)) (slice_set c.args.self.now.page_in.items c.from-2.result (Some c.args.page))
    c.args.self.now.sound c.requires.absent inside split resident
    (ap (λ (i : ℕ). slice_set c.args.self.now.frame_of.items i (Some c.unwrap_or-frame.result)) c.from.ensures ∙ ap (λ (f : ℕ). slice_set c.args.self.now.frame_of.items c.args.page (Some f)) c.unwrap_or-frame.ensures)
    (ap (λ (i : ℕ). slice_set c.args.self.now.page_in.items i (Some c.args.page)) frame)
